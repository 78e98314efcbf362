-- The type that a control gets, by the name that is looked for.
use Prim.Native.Nat.{ℕ, zero, suc, ◌+◌, ◌*◌, ◌/◌, ◌%◌, ◌≤◌, ◌<◌}
use native.Mathlib.Omega.{arith}
use native.Mathlib.Numerals.{add-one}
use mathlib.Core.Path.{◌≡◌, refl, sym, ap, ◌∙◌}
use mathlib.Core.Bool.{Bool, true, false, ◌||◌}
use mathlib.Core.List.{List, [], ◌∷◌, ◌++◌}
use mathlib.Core.Option.{Option, none, some}
use borrow.Author.Tests.{leb-true, eq-eqb, ne_eqb, le-ltb}
use lib.Dec.{leb, eqb}
use lib.ListN.{length, drop, set, length-append, length-drop}
use lib.Seq.{length-take-le, take_at}
use Rattle.rules.specs.Lists.{all, find}
use Rattle.rules.specs.Bytes.{part}
use Rattle.rules.specs.declared.Answer.{Answer}
use Rattle.rules.specs.Texts.{label, text_exit, label_exit}
use Rattle.rules.specs.Rows.{control_width, row_at}
use Rattle.rules.specs.Pairing.{controls_in, cut_of, units_in, control_name_lem, names_match, has_name, type_by, paired_type, types_set, is_named, control_ok}
use Rattle.rules.proofs.ListLaws.{and_l, and_r}
use Rattle.rules.proofs.PairingLaws.{row_stays}
use Rattle.text.proofs.Digits.{longest-label}
use Rattle.rows.specs.Put.{control_words, info_words}
use Rattle.rows.specs.Get.{ControlOf}
use Rattle.rows.specs.declared.ControlRow.{ControlRow}
use Rattle.rows.specs.declared.InfoRow.{InfoRow}
use Rattle.pairing.specs.Wanted.{units_from, name_of, Inside}
use Rattle.pairing.specs.declared.Wanted.{Wanted}
use Rattle.pairing.proofs.NameLaws.{and-false, other_length, bytes-are, units_are, odd_none}
use Rattle.pairing.proofs.RowLaws.{each_row, control-ok, control-type}

-- ---- one TypeInfo row
letters-from : (s : List ℕ) (name : Wanted) (i n : ℕ) → length (units_from s name i n) ≡ n
unfolding units_from
letters-from s name i zero = refl
letters-from s name i (suc n) = ap suc (letters-from s name (i + 1) n)

module _ (s t : List ℕ) (name : Wanted) (info : InfoRow) where
  pub info_inside : is_named t (info_words info) ≡ true → info.start + info.size ≤ length t
  info_inside e = leb-true (info.start + info.size) (length t) e

  pub cut_skipped : ¬ (info.cut ≡ 0) → false ≡ has_name t (some (name_of s name)) (info_words info)
  unfolding has_name
  cut_skipped h = rw (ne_eqb info.cut 0 h)

  pub other-size : is_named t (info_words info) ≡ true → ¬ (info.size ≡ name.letters) → false ≡ has_name t (some (name_of s name)) (info_words info)
  unfolding has_name name_of
  other-size e h =
      let l = info_inside e in
      let m : length (part t info.start info.size) ≡ info.size = length-take-le info.size (drop info.start t) (omega (arith, length-drop info.start t)) in
      let n = letters-from s name 0 name.letters in
      rw (other_length (units_from s name 0 name.letters) (part t info.start info.size) (λ q. h (omega (arith, m, n, q)))) (sym (and-false (eqb info.cut 0)))

  pub name_compared : (b : Bool) → info.cut ≡ 0 → info.size ≡ name.letters → b ≡ names_match (name_of s name) (part t info.start name.letters)
      → b ≡ has_name t (some (name_of s name)) (info_words info)
  unfolding has_name
  name_compared b whole size e = rw (eq-eqb info.cut 0 whole, size) e

  pub name-other : info.cut ≡ 0 → info.size ≡ name.letters → names_match (name_of s name) (part t info.start name.letters) ≡ false
      → false ≡ has_name t (some (name_of s name)) (info_words info)
  name-other whole size e = name_compared false whole size (sym e)

-- no name is found nowhere
none_found : (t : List ℕ) (infos : List (List ℕ)) → find (has_name t none) infos ≡ none
unfolding find has_name
none_found t [] = refl
none_found t (info ∷ infos) = rw (and-false (eqb (cut_of info) 0)) (none_found t infos)

-- ---- the label of a numbered control
module _ (n : ℕ) (out : List ℕ) (small : n < 4294967296) (room18 : length out ≡ 18) where
  label-fits : length (label n) ≤ length out
  label-fits = omega (arith, longest-label n small)

  pub label-first : (label_exit n out).answer.first ≡ length (label n)
  unfolding label_exit text_exit
  label-first = rw (le-ltb (length out) (length (label n)) label-fits)

  label-out : (label_exit n out).out ≡ label n ++ drop (length (label n)) out
  unfolding label_exit text_exit
  label-out = rw (le-ltb (length out) (length (label n)) label-fits)

  pub label-name : name_of (label_exit n out).out (record { start = 0; letters = (label_exit n out).answer.first; wide = false }) ≡ label n
  label-name =
      rw (label-first, label-out)
      (bytes-are (label n ++ drop (length (label n)) out) 0 (length (label n)) (omega (arith, length-append (label n) (drop (length (label n)) out)))
      ∙ take_at (label n) (drop (length (label n)) out) (length (label n)) refl)

-- the label, once it is written into 18 bytes
pub record Labelled (n : ℕ) (out : List ℕ) (name : Wanted) : Type 0 where
  pub inside : Inside out name
  pub is-label : name_of out name ≡ label n

pub labelled : (n : ℕ) (old out : List ℕ) (written : Answer) → n < 4294967296 → length old ≡ 18 → written ≡ (label_exit n old).answer → out ≡ (label_exit n old).out
    → Labelled n out (record { start = 0; letters = written.first; wide = false })
labelled n old out written small room18 a o = rw (a, o) (record {
  inside = rw (label-first n old small room18, label-out n old small room18) (omega (arith, length-append (label n) (drop (length (label n)) old)));
  is-label = label-name n old small room18;
})

-- ---- by the mark
module _ (s : List ℕ) (row : ControlRow) where
  pub inside-unless : control_ok s (control_words row) ≡ true → ¬ (row.mark ≡ 1) → row.start + row.size ≤ length s
  inside-unless e h =
      let k : (eqb row.mark 1 || is_named s (control_words row)) ≡ true = and_r (leb row.mark 2) (eqb row.mark 1 || is_named s (control_words row)) e in
      leb-true (row.start + row.size) (length s) (rw (ne_eqb row.mark 1 h) at k)

  pub mark-known : control_ok s (control_words row) ≡ true → row.mark ≤ 2
  mark-known e = leb-true row.mark 2 (and_l (leb row.mark 2) (eqb row.mark 1 || is_named s (control_words row)) e)

module _ (s t : List ℕ) (infos : List (List ℕ)) (row : ControlRow) where
  abbrev found-by : Option (List ℕ) → ℕ
  found-by name = type_by row.type_code (find (has_name t name) infos)

  pub by-label : (r : ℕ) → row.mark ≡ 1 → r ≡ found-by (some (label row.start)) → r ≡ paired_type s t infos (control_words row)
  unfolding paired_type control_name_lem
  by-label r mark e = rw mark e

  pub by_bytes : (r : ℕ) → row.mark ≡ 2 → row.start + row.size ≤ length s
      → r ≡ found-by (some (name_of s (record { start = row.start; letters = row.size; wide = false }))) → r ≡ paired_type s t infos (control_words row)
  unfolding paired_type control_name_lem
  by_bytes r mark h e = rw mark (e ∙ ap (λ name. found-by (some name)) (bytes-are s row.start row.size h))

  pub by_odd : row.mark ≡ 0 → row.start + row.size ≤ length s → row.size % 2 ≡ 1 → row.type_code ≡ paired_type s t infos (control_words row)
  unfolding paired_type control_name_lem
  by_odd mark h odd =
      let m : length (part s row.start row.size) ≡ row.size = length-take-le row.size (drop row.start s) (omega (arith, length-drop row.start s)) in
      let n : length (part s row.start row.size) ≡ 2 * (row.size / 2) + 1 = omega arith in
      rw (mark, odd_none (part s row.start row.size) (row.size / 2) n, none_found t infos)

  pub by_units : (r : ℕ) → row.mark ≡ 0 → row.start + row.size ≤ length s → ¬ (row.size % 2 ≡ 1)
      → r ≡ found-by (some (name_of s (record { start = row.start; letters = row.size / 2; wide = true }))) → r ≡ paired_type s t infos (control_words row)
  unfolding paired_type control_name_lem
  by_units r mark h even e =
      let n : 2 * (row.size / 2) ≡ row.size = omega arith in
      let units = units_are s row.start (row.size / 2) (omega arith) in
      rw mark (e ∙ ap found-by (sym units ∙ ap (λ (k : ℕ). units_in (part s row.start k)) n))

-- ---- one control more
pub types-none : (s t controls : List ℕ) (infos : List (List ℕ)) → types_set s t infos 0 controls ≡ controls
unfolding types_set
types-none s t controls infos = refl

module _ (s t controls : List ℕ) (infos : List (List ℕ)) (k : ℕ) where
  pub types-next : types_set s t infos (k + 1) controls ≡ set (types_set s t infos k controls) (k * control_width) (paired_type s t infos (row_at control_width k controls))
  unfolding types_set
  types-next = rw (add-one k)

  module _ (r : ControlRow) (c : ControlOf (row_at control_width k (types_set s t infos k controls)) r) where
    pub next-ok : (n : ℕ) → all (control_ok s) (controls_in n controls) ≡ true → k < n → control_ok s (control_words r) ≡ true
    next-ok n e u = control-ok c s ∙ ap (control_ok s) (row_stays s t infos controls k) ∙ each_row (control_ok s) control_width n controls e k u

    pub next-type : paired_type s t infos (control_words r) ≡ paired_type s t infos (row_at control_width k controls)
    next-type = control-type c s t infos ∙ ap (paired_type s t infos) (row_stays s t infos controls k)
