-- The directory that is lent: where the ids of a table and the letters of a row stand in it.
use mathlib.Core.Path.{◌≡◌, refl, sym, ap, ◌∙◌}
use mathlib.Core.Bool.{Bool, true, false, cond}
use mathlib.Core.List.{List, [], ◌∷◌, ◌++◌, append_assoc}
use mathlib.Core.Option.{some}
use Prim.Native.Nat.{ℕ, zero, suc, ◌+◌, ◌*◌, ◌-◌, ◌/◌, ◌<◌, ◌≤◌}
use Prim.Native.String.{String}
use native.Mathlib.Nat.{le_of_suc-le-suc}
use native.Mathlib.Omega.{arith}
use lib.Dec.{T, eqb}
use lib.ListN.{length, take, drop, get_or, length-append, length-take, length-drop}
use lib.Seq.{take-append-le, drop-append-le, take-append_seam, drop_at, get_or-append-add, get_or-take, get_or-drop}
use Rattle.rules.specs.Lists.{ascends, find, text}
use Rattle.rules.specs.NameTables.{Table}
use Rattle.rules.specs.Names.{name_in_lem, name_text, has_id}
use Rattle.nametables.specs.Directory.{all_names, ids_of, starts_of, letters_of}
use Rattle.names.specs.Lookup.{Lent, Stand, rows_in_lem, name_at, place_in}

-- ---- the ids of some rows
ids_take : (n : ℕ) (t : Table) → take n (ids_of t) ≡ ids_of (take n t)
ids_take zero t = refl
ids_take (suc n) [] = refl
ids_take (suc n) (r ∷ t) = ap (λ (l : List ℕ). r.0 ∷ l) (ids_take n t)

ids_drop : (n : ℕ) (t : Table) → drop n (ids_of t) ≡ ids_of (drop n t)
ids_drop zero t = refl
ids_drop (suc n) [] = refl
ids_drop (suc n) (r ∷ t) = ids_drop n t

ids_many : (t : Table) → length (ids_of t) ≡ length t
ids_many [] = refl
ids_many (r ∷ t) = ap suc (ids_many t)

-- ---- the letters of a row
starts-many : (p : ℕ) (t : Table) → length (starts_of p t) ≡ suc (length t)
starts-many p [] = refl
starts-many p (r ∷ t) = ap suc (starts-many (p + length (text r.1)) t)

first-start : (p : ℕ) (t : Table) → get_or (starts_of p t) 0 0 ≡ p
first-start p [] = refl
first-start p (r ∷ t) = refl

pub record NameIn (letters name : List ℕ) (start end : ℕ) : Type 0 where
  pub ordered : start ≤ end
  pub inside : end ≤ length letters
  pub is : take (end - start) (drop start letters) ≡ name

first-name : (before name after : List ℕ) (p : ℕ) → length before ≡ p → NameIn (before ++ (name ++ after)) name p (p + length name)
first-name before name after p e =
    let w : p + length name - p ≡ length name = omega arith in
    record {
      ordered = omega arith;
      inside = simp length-append (omega arith);
      is = rw (w, drop_at before (name ++ after) p e, take-append_seam name after);
    }

name-from : (before : List ℕ) (p : ℕ) → length before ≡ p → (t : Table) (k : ℕ) → k < length t
    → NameIn (before ++ letters_of t) (name_at t k) (get_or (starts_of p t) k 0) (get_or (starts_of p t) (suc k) 0)
name-from before p e [] k h = absurd (omega arith)
name-from before p e (r ∷ t) zero h = rw (first-start (p + length (text r.1)) t) (first-name before (text r.1) (letters_of t) p e)
name-from before p e (r ∷ t) (suc k) h =
    let m : length (before ++ text r.1) ≡ p + length (text r.1) = simp length-append (omega arith) in
    rw (append_assoc before (text r.1) (letters_of t)) at (name-from (before ++ text r.1) (p + length (text r.1)) m t k (le_of_suc-le-suc h))

-- ---- the row at the place of an id
row_by : (r : ℕ × String) (t : Table) (x : ℕ)
    → (place_in (ids_of t) x < length t → name_at t (place_in (ids_of t) x) ≡ name_text (find (has_id x) t))
    → (b : Bool) → cond b 0 (suc (place_in (ids_of t) x)) < length (r ∷ t)
    → name_at (r ∷ t) (cond b 0 (suc (place_in (ids_of t) x))) ≡ name_text (cond b (some r) (find (has_id x) t))
row_by r t x later true h = refl
row_by r t x later false h = later (le_of_suc-le-suc h)

row_is : (t : Table) (x : ℕ) → place_in (ids_of t) x < length t → name_at t (place_in (ids_of t) x) ≡ name_text (find (has_id x) t)
unfolding place_in find
row_is [] x h = absurd (omega arith)
row_is (r ∷ t) x h = row_by r t x (row_is t x) (eqb r.0 x) h

none-by : (r : ℕ × String) (t : Table) (x : ℕ)
    → (length t ≤ place_in (ids_of t) x → [] ≡ name_text (find (has_id x) t))
    → (b : Bool) → length (r ∷ t) ≤ cond b 0 (suc (place_in (ids_of t) x)) → [] ≡ name_text (cond b (some r) (find (has_id x) t))
none-by r t x later true h = absurd (omega arith)
none-by r t x later false h = later (le_of_suc-le-suc h)

none_is : (t : Table) (x : ℕ) → length t ≤ place_in (ids_of t) x → [] ≡ name_text (find (has_id x) t)
unfolding place_in find
none_is [] x h = refl
none_is (r ∷ t) x h = none-by r t x (none_is t x) (eqb r.0 x) h

-- ---- of what is lent
module _ {index letters : List ℕ} (l : Lent index letters) where
  pub size : length index ≡ 2 * length all_names + 1
  size = rw l.index_is (simp length-append (omega (arith, ids_many all_names, starts-many 0 all_names)))

  start-at : (k : ℕ) → get_or index (length index / 2 + k) 0 ≡ get_or (starts_of 0 all_names) k 0
  start-at k =
      let n : length index / 2 ≡ length (ids_of all_names) = omega (arith, size, ids_many all_names) in
      rw (n, l.index_is) (get_or-append-add (ids_of all_names) (starts_of 0 all_names) k 0)

  pub letters-at : (row : ℕ) → row < length all_names → NameIn letters (name_at all_names row) (get_or index (length index / 2 + row) 0) (get_or index (length index / 2 + row + 1) 0)
  letters-at row h =
      let m : length index / 2 + row + 1 ≡ length index / 2 + suc row = omega arith in
      rw (m, start-at row, start-at (suc row), l.letters-are) (name-from [] 0 refl all_names row h)

  module _ {from to : ℕ} (s : Stand from to) where
    pub ids_there : to ≤ length index
    ids_there = omega (arith, size, s.inside)

    pub ids_are : take (to - from) (drop from index) ≡ ids_of (rows_in_lem from to)
    ids_are =
        let f : from ≤ length (ids_of all_names) = omega (arith, ids_many all_names, s.ordered, s.inside) in
        let g : to - from ≤ length (drop from (ids_of all_names)) = simp length-drop (omega (arith, ids_many all_names, s.inside)) in
        rw (l.index_is, drop-append-le from (ids_of all_names) (starts_of 0 all_names) f, take-append-le (to - from) (drop from (ids_of all_names)) (starts_of 0 all_names) g)
        (ap (take (to - from)) (ids_drop from all_names) ∙ ids_take (to - from) (drop from all_names))

    pub ids_ascend : T (ascends 0 (take (to - from) (drop from index)))
    ids_ascend = rw ids_are s.ascending

    rows-many : length (rows_in_lem from to) ≡ to - from
    rows-many = simp (length-take, length-drop) (omega (arith, s.inside, s.ordered))

    module _ (x i : ℕ) (e : i ≡ place_in (take (to - from) (drop from index)) x) where
      place : i ≡ place_in (ids_of (rows_in_lem from to)) x
      place = e ∙ ap (λ (ids : List ℕ). place_in ids x) ids_are

      pub there : i < to - from → from + i < length all_names
      there h = omega (arith, s.inside, s.ordered)

      pub name-is : i < to - from → name_at all_names (from + i) ≡ name_in_lem (rows_in_lem from to) x
      unfolding name_in_lem
      name-is h =
          ap (λ (r : ℕ × String). text r.1) (sym (get_or-take (to - from) (drop from all_names) i (0, "") h ∙ get_or-drop from all_names i (0, "")))
          ∙ ap (name_at (rows_in_lem from to)) place
          ∙ row_is (rows_in_lem from to) x (omega (arith, place, rows-many))

      pub no_name : to - from ≤ i → [] ≡ name_in_lem (rows_in_lem from to) x
      unfolding name_in_lem
      no_name h = none_is (rows_in_lem from to) x (omega (arith, place, rows-many))
