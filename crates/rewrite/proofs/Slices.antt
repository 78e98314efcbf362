-- Parts of a stream that are written as they stand.
use Prim.Native.Nat.{ℕ, ◌+◌, ◌-◌, ◌*◌, ◌/◌, ◌%◌, ◌≤◌, ◌<◌}
use native.Mathlib.Omega.{arith}
use mathlib.Core.Path.{◌≡◌, refl, ap, ap₂, ◌∙◌}
use mathlib.Core.List.{List, [], ◌∷◌, ◌++◌}
use mathlib.Core.Option.{some}
use lib.Dec.{ltb}
use lib.ListN.{length, take, drop}
use lib.Seq.{take-add, drop-drop, drop-cons}
use borrow.Author.Tests.{ltb-true}
use Rattle.rules.specs.Bytes.{Bytes, part, byte, byte_at, half_at_lem, two_bytes_lem}
use Rattle.rules.proofs.ListLaws.{Every, every_if, every_when, every_at}
use Rattle.rewrite.specs.Pieces.{between}

module _ (s : List ℕ) where
  pub none_between : (a : ℕ) → between s a a ≡ []
  none_between a = let e : a - a ≡ 0 = omega arith in ap (λ n. take n (drop a s)) e

  pub part-between : (a n : ℕ) → between s a (a + n) ≡ part s a n
  part-between a n = let e : a + n - a ≡ n = omega arith in ap (λ k. take k (drop a s)) e

  -- one part and then the next
  pub between_join : (a b c : ℕ) → a ≤ b → b ≤ c → between s a c ≡ between s a b ++ between s b c
  between_join a b c h k =
      let e : c - a ≡ (b - a) + (c - b) = omega arith in
      let g : a + (b - a) ≡ b = omega arith in
      ap (λ n. take n (drop a s)) e ∙ take-add (b - a) (c - b) (drop a s) ∙ ap (λ l. between s a b ++ take (c - b) l) (drop-drop (b - a) a s ∙ ap (λ n. drop n s) g)

  pub one-between : (p : ℕ) → p < length s → between s p (p + 1) ≡ byte s p ∷ []
  one-between p h = part-between p 1 ∙ ap (take 1) (drop-cons s p 0 h)

  -- ---- bytes that are there
  abbrev There : ℕ → ℕ → Type 0
  There p b = (p < length s) × (byte s p ≡ b)

  byte-there : (p : ℕ) → Every (There p) (byte_at s p)
  unfolding byte_at
  byte-there p = every_if (There p) (ltb p (length s)) _ _ (λ t. (ltb-true _ _ t, refl)) λ _. tt

  pub byte-is : (p b : ℕ) → byte_at s p ≡ some b → There p b
  byte-is p b e = every_at (There p) (byte_at s p) b (byte-there p) e

  -- a number of two bytes is written as it stands
  pub record Two (p n : ℕ) : Type 0 where
    pub within : p + 2 ≤ length s
    pub stands : between s p (p + 2) ≡ two_bytes_lem n

  module _ (small : Bytes s) where
    two_bytes : (p : ℕ) → Every (Two p) (half_at_lem s p)
    unfolding half_at_lem
    two_bytes p =
        every_when (Two p) (byte_at s p) _ λ lo e.
        every_when (Two p) (byte_at s (p + 1)) _ λ hi f.
        let a = byte-is p lo e in
        let b = byte-is (p + 1) hi f in
        let low : byte s p ≡ (lo + 256 * hi) % 256 = omega (arith, small p) in
        let high : byte s (p + 1) ≡ (lo + 256 * hi) / 256 = omega (arith, small p) in
        let end : p + 2 ≡ p + 1 + 1 = omega arith in
        record {
          within = omega arith;
          stands = between_join p (p + 1) (p + 2) (omega arith) (omega arith)
              ∙ ap₂ ◌++◌ (one-between p a.0) (ap (between s (p + 1)) end ∙ one-between (p + 1) b.0)
              ∙ ap₂ (λ x y. x ∷ y ∷ []) low high;
        }

    pub two_is : (p n : ℕ) → half_at_lem s p ≡ some n → Two p n
    two_is p n e = every_at (Two p) (half_at_lem s p) n (two_bytes p) e
