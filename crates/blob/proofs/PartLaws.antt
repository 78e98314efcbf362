-- Parts of a slice, and the part that a name is.
use Prim.Native.Nat.{ℕ, ◌+◌, ◌-◌, ◌≤◌, ◌<◌}
use native.Mathlib.Omega.{arith}
use native.Mathlib.Nat.{zero-add, add_comm}
use mathlib.Core.Path.{◌≡◌, refl, sym, ap, ◌∙◌}
use mathlib.Core.Bool.{Bool, true, false, cond, ◌||◌}
use mathlib.Core.List.{List, []}
use mathlib.Core.Logic.{◌⊎◌, inl, inr}
use lib.Dec.{leb, eqb}
use lib.ListN.{length, take, drop}
use borrow.Author.Tests.{le-leb, lt-leb, ne_eqb}
use Rattle.rules.specs.NamePart.{of_stream, of_label, no_part, name_part, part_bytes_lem}
use Rattle.blob.specs.Exit.{part_or, Place, behind, place_or, part_place}

pub outside : (s : List ℕ) (start size : ℕ) → length s < start + size → [] ≡ part_or s start size
unfolding part_or
outside s start size h = rw (lt-leb (start + size) (length s) h)

pub inside : (s : List ℕ) (start size : ℕ) → start + size ≤ length s → take (start + size - start) (drop start s) ≡ part_or s start size
unfolding part_or
inside s start size h =
    let e : start + size - start ≡ size = omega arith in
    rw (le-leb (start + size) (length s) h, e)

-- the same of the places
at-start : (p : Place) → p ≡ behind p 0
at-start p =
    let e : p.1 ≡ p.1 + 0 = omega arith in
    ap (λ (n : ℕ). (p.0, n)) e

pub outside_at : (s : List ℕ) (at : Place) (start size : ℕ) (other : Place) → length s < start + size → other ≡ place_or s at start size other
unfolding place_or
outside_at s at start size other h = rw (lt-leb (start + size) (length s) h)

pub inside-at : (s : List ℕ) (at : Place) (start size : ℕ) (other : Place) → start + size ≤ length s → ◌≡◌ {A = Place} (at.0, start + at.1) (place_or s at start size other)
unfolding place_or
inside-at s at start size other h = rw (le-leb (start + size) (length s) h, add_comm start at.1)

pub either : (m : ℕ) → (m ≡ 0) ⊎ (m ≡ 2) → (eqb m 0 || eqb m 2) ≡ true
either m (inl e) = rw e
either m (inr e) = rw e

module _ (s l : List ℕ) (start size : ℕ) where
  in_stream : part_or s start size ≡ part_bytes_lem s l (cond (leb (start + size) (length s)) (of_stream start size) no_part)
  unfolding part_or
  in_stream = go (leb (start + size) (length s))
    where
      go : (b : Bool) → cond b (take size (drop start s)) [] ≡ part_bytes_lem s l (cond b (of_stream start size) no_part)
      go true = refl
      go false = refl

  in_label : part_or l 0 size ≡ part_bytes_lem s l (cond (leb size (length l)) (of_label 0 size) no_part)
  unfolding part_or
  in_label = rw (zero-add size) (go (leb size (length l)))
    where
      go : (b : Bool) → cond b (take size (drop 0 l)) [] ≡ part_bytes_lem s l (cond b (of_label 0 size) no_part)
      go true = refl
      go false = refl

  abbrev named : ℕ → List ℕ
  named mark = part_bytes_lem s l (name_part s l mark start size)

  pub by-stream : (mark : ℕ) → (eqb mark 0 || eqb mark 2) ≡ true → part_or s start size ≡ named mark
  unfolding name_part
  by-stream mark e = in_stream ∙ sym (rw e)

  pub by-label : (mark : ℕ) → mark ≡ 1 → part_or l 0 size ≡ named mark
  unfolding name_part
  by-label mark e = in_label ∙ sym (rw e)

  pub by-none : (mark : ℕ) → (mark ≡ 0 → ⊥) → (mark ≡ 2 → ⊥) → (mark ≡ 1 → ⊥) → [] ≡ named mark
  unfolding name_part
  by-none mark a b c = sym (rw (ne_eqb mark 0 a, ne_eqb mark 2 b, ne_eqb mark 1 c))

  -- ---- and of the places
  module _ (ps pl : Place) where
    place_in_stream : place_or s ps start size ps ≡ part_place ps pl (cond (leb (start + size) (length s)) (of_stream start size) no_part)
    unfolding place_or
    place_in_stream = go (leb (start + size) (length s))
      where
        go : (b : Bool) → cond b (behind ps start) ps ≡ part_place ps pl (cond b (of_stream start size) no_part)
        go true = refl
        go false = at-start ps

    place_in_label : place_or l pl 0 size ps ≡ part_place ps pl (cond (leb size (length l)) (of_label 0 size) no_part)
    unfolding place_or
    place_in_label = rw (zero-add size) (go (leb size (length l)))
      where
        go : (b : Bool) → cond b (behind pl 0) ps ≡ part_place ps pl (cond b (of_label 0 size) no_part)
        go true = refl
        go false = at-start ps

    abbrev placed : ℕ → Place
    placed mark = part_place ps pl (name_part s l mark start size)

    pub at-stream : (mark : ℕ) → (eqb mark 0 || eqb mark 2) ≡ true → place_or s ps start size ps ≡ placed mark
    unfolding name_part
    at-stream mark e = place_in_stream ∙ sym (rw e)

    pub at_label : (mark : ℕ) → mark ≡ 1 → place_or l pl 0 size ps ≡ placed mark
    unfolding name_part
    at_label mark e = place_in_label ∙ sym (rw e)

    pub at_none : (mark : ℕ) → (mark ≡ 0 → ⊥) → (mark ≡ 2 → ⊥) → (mark ≡ 1 → ⊥) → ps ≡ placed mark
    unfolding name_part
    at_none mark a b c = at-start ps ∙ sym (rw (ne_eqb mark 0 a, ne_eqb mark 2 b, ne_eqb mark 1 c))
