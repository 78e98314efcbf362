-- The bytes of a name, as they are shown.
use mathlib.Core.Path.{◌≡◌, refl, sym, ap, ◌∙◌}
use mathlib.Core.Bool.{Bool, true, false, cond}
use mathlib.Core.List.{List, [], ◌∷◌, ◌++◌, append_assoc, append-nil}
use Prim.Native.Nat.{ℕ, ◌+◌, ◌≤◌, ◌<◌}
use native.Mathlib.Omega.{arith}
use native.Mathlib.Numerals.{add-one}
use lib.ListN.{length, get_or, take}
use lib.Seq.{take-suc, take_all}
use borrow.Author.Tests.{eq-eqb, ne_eqb}
use Rattle.rules.specs.Lists.{text}
use Rattle.rules.specs.Digits.{decimal, hex}
use Rattle.rules.specs.Listing.{or_dash}
use Rattle.text.specs.Writer.{Wrote}
use Rattle.text.proofs.Chain.{nothing, ◌⨟◌}
use Rattle.listing.specs.InfoLine.{is_shown, name_byte, name_bytes, size_column}

-- ---- one byte
pub shown : (b : ℕ) → is_shown b ≡ true → name_byte b ≡ b ∷ []
unfolding name_byte
shown b e = rw e

pub escaped : (b : ℕ) → is_shown b ≡ false → name_byte b ≡ (0x5C ∷ []) ++ hex 2 b
unfolding name_byte
escaped b e = rw e

-- ---- how many they are
pub whole-size : (size cut : ℕ) → cut ≡ 0 → size_column size cut ≡ decimal size
unfolding size_column
whole-size size cut e = rw (eq-eqb cut 0 e)

pub cut-size : (size cut : ℕ) → ¬ (cut ≡ 0) → size_column size cut ≡ decimal size ++ text "+"
unfolding size_column
cut-size size cut e = rw (ne_eqb cut 0 e)

-- ---- one more
both : (a b : List ℕ) → name_bytes (a ++ b) ≡ name_bytes a ++ name_bytes b
unfolding name_bytes
both [] b = refl
both (x ∷ a) b = ap (λ (l : List ℕ). name_byte x ++ l) (both a b) ∙ sym (append_assoc (name_byte x) (name_bytes a) (name_bytes b))

one_more : (s : List ℕ) (i : ℕ) → i < length s → name_bytes (take (i + 1) s) ≡ name_bytes (take i s) ++ name_byte (get_or s i 0)
unfolding name_bytes
one_more s i h =
    rw (add-one, take-suc s i 0 h)
    (both (take i s) (get_or s i 0 ∷ []) ∙ ap (λ (l : List ℕ). name_bytes (take i s) ++ l) (append-nil (name_byte (get_or s i 0))))

-- ---- all of them, or `-`
pub no_bytes : (s : List ℕ) → length s ≡ 0 → or_dash (name_bytes s) ≡ text "-"
unfolding or_dash name_bytes
no_bytes [] e = refl
no_bytes (b ∷ s) e = absurd (omega arith)

begins : (b : ℕ) (s : List ℕ) (t : Bool) → or_dash (cond t (b ∷ []) (0x5C ∷ hex 2 b) ++ s) ≡ cond t (b ∷ []) (0x5C ∷ hex 2 b) ++ s
unfolding or_dash
begins b s true = refl
begins b s false = refl

pub some_bytes : (s : List ℕ) → (length s ≡ 0 → ⊥) → or_dash (name_bytes s) ≡ name_bytes s
unfolding name_bytes name_byte
some_bytes [] e = absurd (e refl)
some_bytes (b ∷ s) e = begins b (name_bytes s) (is_shown b)

-- ---- written byte by byte
-- the first i bytes of s are in the buffer
pub record Spelled (s old : List ℕ) (at : ℕ) (new : List ℕ) (o i : ℕ) : Type 0 where
  pub few : i ≤ length s
  pub wrote : Wrote old at (name_bytes (take i s)) new o

module _ {s old : List ℕ} {at : ℕ} where
  pub spelled_none : Spelled s old at old at 0
  unfolding name_bytes
  spelled_none = record { few = omega arith; wrote = nothing }

  pub spelled-more : {new next : List ℕ} {o q i : ℕ} → Spelled s old at new o i → i < length s → Wrote new o (name_byte (get_or s i 0)) next q
      → Spelled s old at next q (i + 1)
  spelled-more {i = i} k l w = record { few = omega arith; wrote = rw (one_more s i l) (k.wrote ⨟ w) }

  pub spelled-all : {new : List ℕ} {o i : ℕ} → Spelled s old at new o i → length s ≤ i → Wrote old at (name_bytes s) new o
  spelled-all {i = i} k l = rw (take_all i s l) at k.wrote
