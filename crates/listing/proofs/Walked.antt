-- Lines written row by row.
use mathlib.Core.Path.{◌≡◌}
use mathlib.Core.List.{List}
use Prim.Native.Nat.{ℕ, ◌+◌, ◌≤◌, ◌<◌}
use native.Mathlib.Omega.{arith}
use native.Mathlib.Numerals.{add-one}
use Rattle.rules.specs.Rows.{row_at}
use Rattle.text.specs.Writer.{Wrote}
use Rattle.text.proofs.Chain.{nothing, ◌⨟◌}
use Rattle.listing.specs.Shown.{lines_to}

-- of `count` rows the first n have their lines in the buffer
pub record Walked (line_of : ℕ → List ℕ → List ℕ) (w : ℕ) (words : List ℕ) (count : ℕ) (old : List ℕ) (at : ℕ) (new : List ℕ) (p n : ℕ) : Type 0 where
  pub few : n ≤ count
  pub wrote : Wrote old at (lines_to line_of w n words) new p

module _ {line_of : ℕ → List ℕ → List ℕ} {w : ℕ} {words : List ℕ} {count : ℕ} {old : List ℕ} {at : ℕ} where
  pub walked_none : Walked line_of w words count old at old at 0
  unfolding lines_to
  walked_none = record { few = omega arith; wrote = nothing }

  pub walked_more : {new next : List ℕ} {p q n : ℕ} → Walked line_of w words count old at new p n → n < count
      → Wrote new p (line_of n (row_at w n words)) next q → Walked line_of w words count old at next q (n + 1)
  unfolding lines_to
  walked_more k l o = record { few = omega arith; wrote = rw add-one (k.wrote ⨟ o) }

  pub walked_all : {new : List ℕ} {p n : ℕ} → Walked line_of w words count old at new p n → count ≤ n → Wrote old at (lines_to line_of w count words) new p
  walked_all {new} {p} {n} k l = let e : n ≡ count = omega (arith, k.few) in rw e at k.wrote
