-- A property is written as its piece says.
use Prim.Native.Nat.{ℕ, ◌+◌, ◌≤◌, ◌<◌}
use native.Mathlib.Omega.{arith}
use mathlib.Core.Path.{◌≡◌, refl, sym, ap, subst, ◌∙◌}
use mathlib.Core.Bool.{true}
use mathlib.Core.List.{List, [], ◌∷◌, ◌++◌}
use mathlib.Core.Option.{none, some}
use mathlib.Core.Option as maybe
use lib.Dec.{leb, eqb}
use lib.ListN.{length, drop, length-drop}
use lib.Seq.{length-take-le}
use borrow.Author.Tests.{le-leb, lt-leb, leb-true, leb-false, eqb-false}
use Rattle.std.proofs.Common.{Option, Some}
use Rattle.rules.specs.Bytes.{Bytes, byte, byte_at, half_at_lem, two_bytes_lem}
use Rattle.rules.specs.Access2000.{Prop, length_at, extent_at, property_at, goes_on_lem}
use Rattle.rules.specs.Read2000.{bytes_of}
use Rattle.rules.specs.Rewrite.{length_bytes, value_bytes, property_bytes}
use Rattle.rules.specs.Told.{told_as}
use Rattle.rules.proofs.ListLaws.{Every, every_if, every_then, every_when, every_at}
use Rattle.rules.proofs.Access2000Laws.{Within, property-within}
use Rattle.walk2000.specs.Told as told
use Rattle.walk2000.specs.declared.Extent.{Extent}
use Rattle.rewrite.specs.declared.Piece.{Piece}
use Rattle.rewrite.specs.Pieces.{Left, prop, head, going, between, piece_bytes, InOrder, Goes, Spells}
use Rattle.rewrite.proofs.Slices.{none_between, part-between, between_join, one-between, byte-is, two_is}

-- ---- where a value stands
-- after a length at p; one above 254 has two bytes after 0xFF
record Length (s : List ℕ) (p : ℕ) (x : ℕ × ℕ) : Type 0 where
  forth : p + 1 ≤ x.0
  long : 254 < x.1 → (x.0 ≡ p + 1 + 2) × (half_at_lem s (p + 1) ≡ some x.1)

-- after the id at p, which tells its size or not
record Value (s : List ℕ) (p : ℕ) (x : ℕ × ℕ) : Type 0 where
  told : byte s p ≤ 0xBC → x.0 ≡ p + 1
  sized : 0xBC < byte s p → Length s (p + 1) x

record Property (s : List ℕ) (p : ℕ) (q : Prop) : Type 0 where
  id : q.id ≡ byte s p
  value : Value s p (q.start, q.size)
  inside : q.start + q.size ≤ length s

every_as : {A : Type 0} (P Q : A → Type 0) (o : maybe.Option A) → ((a : A) → P a → Q a) → Every P o → Every Q o
every_as P Q none f h = tt
every_as P Q (some a) f h = f a h

module _ (s : List ℕ) (small : Bytes s) where
  length-is : (p : ℕ) → Every (Length s p) (length_at s p)
  unfolding length_at
  length-is p =
      every_when (Length s p) (byte_at s p) _ λ n e.
      every_if (Length s p) (eqb n 0xFF) _ _
      (λ _. every_when (Length s p) (half_at_lem s (p + 1)) _ λ m h. record { forth = omega arith; long = λ _. (refl, h) })
      λ f. record { forth = omega arith; long = λ l. absurd (omega (arith, (byte-is s p n e).1, small p, eqb-false n 0xFF f)) }

  fixed : (p n : ℕ) → byte s p ≤ 0xBC → Value s p (p + 1, n)
  fixed p n h = record { told = λ _. refl; sized = λ l. absurd (omega arith) }

  value-is : (p : ℕ) → Every (Value s p) (extent_at s (byte s p) (p + 1))
  unfolding extent_at
  value-is p =
      every_if (Value s p) (leb (byte s p) 0x2F) _ _ (λ t. fixed p 0 (omega (arith, leb-true (byte s p) 0x2F t))) λ _.
      every_if (Value s p) (leb (byte s p) 0x5F) _ _ (λ t. fixed p 1 (omega (arith, leb-true (byte s p) 0x5F t))) λ _.
      every_if (Value s p) (leb (byte s p) 0x7F) _ _ (λ t. fixed p 2 (omega (arith, leb-true (byte s p) 0x7F t))) λ _.
      every_if (Value s p) (leb (byte s p) 0xBC) _ _ (λ t. fixed p 4 (omega (arith, leb-true (byte s p) 0xBC t))) λ f.
      every_as (Length s (p + 1)) (Value s p) (length_at s (p + 1)) (λ x h. record { told = λ l. absurd (omega (arith, leb-false (byte s p) 0xBC f)); sized = λ _. h }) (length-is (p + 1))

  property-is : (p : ℕ) → Every (Property s p) (property_at s p)
  unfolding property_at
  property-is p =
      every_then (Value s p) (Property s p) (extent_at s (byte s p) (p + 1)) _ (value-is p) λ x h.
      every_if (Property s p) (leb (x.0 + x.1) (length s)) _ _ (λ t. record { id = refl; value = h; inside = leb-true _ _ t }) λ _. tt

  -- ---- what is written for it
  value-long : (q : Prop) → q.start + q.size ≤ length s → length (bytes_of s q) ≡ q.size
  value-long q h = length-take-le q.size (drop q.start s) (omega (arith, length-drop q.start s))

  module _ (p : ℕ) (there : p < length s) (q : Prop) (x : Property s p q) where
    bytes-told : byte s p ≤ 0xBC → property_bytes s q ≡ byte s p ∷ bytes_of s q
    unfolding property_bytes value_bytes
    bytes-told h = rw (x.id, le-leb (byte s p) 0xBC h)

    bytes-sized : 0xBC < byte s p → property_bytes s q ≡ byte s p ∷ length_bytes q.size ++ bytes_of s q
    unfolding property_bytes value_bytes
    bytes-sized h = rw (x.id, lt-leb (byte s p) 0xBC h, value-long q x.inside)

    one_byte : (n : ℕ) → n ≤ 254 → length_bytes n ≡ n ∷ []
    unfolding length_bytes
    one_byte n h = rw (le-leb n 254 h)

    two-more : (n : ℕ) → 254 < n → length_bytes n ≡ 0xFF ∷ two_bytes_lem n
    unfolding length_bytes
    two-more n h = rw (lt-leb n 254 h)

    abbrev next : ℕ
    next = q.start + q.size

    -- a value whose size the id tells
    told_piece : byte s p ≤ 0xBC → property_bytes s q ≡ piece_bytes s p (record { keep = p; lead = byte s p; start = q.start; next = next })
    told_piece h = bytes-told h ∙ rw (none_between s p, part-between s q.start q.size)

    -- a length of one byte
    short_piece : 0xBC < byte s p → q.size ≤ 254 → property_bytes s q ≡ piece_bytes s p (record { keep = p + 1; lead = q.size; start = q.start; next = next })
    short_piece h l = bytes-sized h ∙ rw (one_byte q.size l, one-between s p there, part-between s q.start q.size)

    -- a length of two bytes, as it stands
    long_piece : 0xBC < byte s p → 254 < q.size → property_bytes s q ≡ piece_bytes s p (record { keep = p + 1; lead = 0xFF; start = p + 1 + 1; next = next })
    long_piece h l =
        let v = (x.value.sized h).long l in
        let two = two_is s small (p + 1 + 1) q.size v.1 in
        let at : q.start ≡ p + 1 + 1 + 2 = v.0 in
        let rest : between s (p + 1 + 1) next ≡ two_bytes_lem q.size ++ bytes_of s q =
        between_join s (p + 1 + 1) (p + 1 + 1 + 2) next (omega arith) (omega arith) ∙ rw (two.stands, ← at, part-between s q.start q.size) in
        bytes-sized h ∙ rw (two-more q.size l, one-between s p there, rest)

  -- ---- the piece, by what `value` answered
  module _ (p : ℕ) (there : p < length s) (goes : goes_on_lem s p ≡ true) {r : Option Extent} (found : r ≡ told_as told.value (property_at s p)) where
    -- in a run a property is left to write, and what follows it
    spells_by : (x : Piece) → ((q : Prop) → property_at s p ≡ some q → Property s p q → InOrder p x × (x.next ≤ length s) × (property_bytes s q ≡ piece_bytes s p x) × (x.next ≡ q.start + q.size)) → Spells s p x
    spells_by x k = record { so = λ left l. go l }
      where
        go : {left : List ℕ} → Left s left p → Goes s left p x
        go (prop {q = q} {rest = rest} g e l) =
            let w = k q e (every_at (Property s p) (property_at s p) q (property-is p) e) in
            record { order = w.0; inside = w.1; later = rest; is = ap (λ b. b ++ rest) w.2; then = going (subst (Left s rest) (sym w.3) l) }
        go (head g e a) = cc

    module _ {v : Extent} (is : r ≡ Some v) where
      stands : (q : Prop) → property_at s p ≡ some q → (q.start ≡ v.start) × (q.size ≡ v.size)
      stands q e = let k : told.value q ≡ v = cc in (cc, cc)

      -- the piece of the property there
      piece_by : (x : Piece) → x.next ≡ v.start + v.size → ((q : Prop) → Property s p q → q.start ≡ v.start → q.size ≡ v.size → InOrder p x × (x.next ≤ length s) × (property_bytes s q ≡ piece_bytes s p x)) → Spells s p x
      piece_by x n k = spells_by x λ q e h.
          let w = stands q e in
          let z = k q h w.0 w.1 in
          (z.0, z.1, z.2, omega (arith, w.0, w.1))

      pub told_spells : byte s p ≤ 0xBC → Spells s p (record { keep = p; lead = byte s p; start = v.start; next = v.start + v.size })
      told_spells h = piece_by _ refl λ q x a b. (
        record { kept = omega arith; replaced = omega (arith, x.value.told h); ends = omega arith },
        omega (arith, x.inside),
        told_piece p there q x h ∙ rw (a, b),
      )

      pub short_spells : 0xBC < byte s p → v.size ≤ 254 → Spells s p (record { keep = p + 1; lead = v.size; start = v.start; next = v.start + v.size })
      short_spells h l = piece_by _ refl λ q x a b. (
        record { kept = omega arith; replaced = omega (arith, (x.value.sized h).forth); ends = omega arith },
        omega (arith, x.inside),
        short_piece p there q x h (omega arith) ∙ rw (a, b),
      )

      pub long_spells : 0xBC < byte s p → 254 < v.size → Spells s p (record { keep = p + 1; lead = 0xFF; start = p + 1 + 1; next = v.start + v.size })
      long_spells h l = piece_by _ refl λ q x a b. (
        record { kept = omega arith; replaced = omega arith; ends = omega (arith, (x.value.sized h).forth) },
        omega (arith, x.inside),
        long_piece p there q x h (omega arith) ∙ rw (a, b),
      )

-- the end of a value that was read
pub value_inside : (s : List ℕ) (p : ℕ) {r : Option Extent} {v : Extent} → r ≡ told_as told.value (property_at s p) → r ≡ Some v → v.start + v.size ≤ length s
value_inside s p {r} {v} found is = go (property_at s p) (property-within s p) found
  where
    go : (o : maybe.Option Prop) → Every (Within s p) o → r ≡ told_as told.value o → v.start + v.size ≤ length s
    go none h e = cc
    go (some q) h e =
        let a : q.start ≡ v.start = cc in
        let b : q.size ≡ v.size = cc in
        omega (arith, h.1)
