-- Controls written in several goes, and one control: its properties one by one, then its row.
use Prim.Native.Nat.{ℕ, ◌+◌, ◌*◌, ◌≤◌}
use native.Mathlib.Omega.{arith}
use mathlib.Core.Path.{◌≡◌, refl, sym, ap, ap₂, ◌∙◌}
use mathlib.Core.List.{List, [], ◌∷◌, ◌++◌, map, append-nil}
use lib.ListN.{length, length-append, length-map}
use Rattle.rules.specs.Lists.{concat}
use Rattle.rules.specs.Rows.{control_width, property_width, written, row_at}
use Rattle.rules.specs.Reading.{Control, Reading, properties, properties_of, control_row, control_rows_from, control_rows, property_row, property_rows}
use Rattle.rules.specs.declared.Property.{Property}
use Rattle.rules.proofs.ListLaws.{map-append, concat-append}
use Rattle.rules.proofs.ReadingLaws.{controls_wide, properties_wide, control-rows-many, rows_append, total}
use Rattle.rows.specs.Put.{put}
use Rattle.rows.specs.Get.{shown_by_lem, properties_from}
use Rattle.rows.specs.Writing.{State, state, theirs, write_controls, write_properties}
use Rattle.rows.proofs.PutLaws.{put-length, put-none, put-append, put_first, written-put}

-- ---- how many
pub theirs-append : (a b : List Control) → theirs (a ++ b) ≡ theirs a ++ theirs b
unfolding theirs
theirs-append a b = ap concat (map-append properties_of a b) ∙ concat-append (map properties_of a) (map properties_of b)

pub theirs-one : (c : Control) → theirs (c ∷ []) ≡ c.properties
unfolding theirs concat
theirs-one c = append-nil c.properties

pub theirs_total : (a : List Control) → total a ≡ length (theirs a)
unfolding total theirs concat
theirs_total [] = refl
theirs_total (c ∷ a) = sym (length-append c.properties (concat (map properties_of a)) ∙ ap (λ n. length c.properties + n) (sym (theirs_total a)))

-- ---- properties
put_both : (a b : List Property) (ps : List ℕ) (pi : ℕ)
    → put property_width ps pi (map property_row (a ++ b)) ≡ put property_width (put property_width ps pi (map property_row a)) (pi + length a) (map property_row b)
put_both a b ps pi =
    ap (put property_width ps pi) (map-append property_row a b)
    ∙ put-append property_width ps pi (map property_row a) (map property_row b) (properties_wide a)
    ∙ ap (λ n. put property_width (put property_width ps pi (map property_row a)) (pi + n) (map property_row b)) (simp length-map)

pub properties-append : (a b : List Property) (ps : List ℕ) (pi : ℕ) → write_properties (a ++ b) ps pi ≡ write_properties b (write_properties a ps pi) (pi + length a)
unfolding write_properties
properties-append a b ps pi = put_both a b ps pi

pub properties-none : (ps : List ℕ) (pi : ℕ) → write_properties [] ps pi ≡ ps
unfolding write_properties
properties-none ps pi = put-none property_width ps pi

pub properties-length : (a : List Property) (ps : List ℕ) (pi : ℕ) → length (write_properties a ps pi) ≡ length ps
unfolding write_properties
properties-length a ps pi = put-length property_width ps pi (map property_row a)

-- one property, then the others
pub properties-more : (q : Property) (a : List Property) (ps : List ℕ) (pi : ℕ)
    → write_properties (q ∷ a) ps pi ≡ write_properties a (put property_width ps pi (property_row q ∷ [])) (pi + 1)
unfolding write_properties
properties-more q a ps pi = properties-append (q ∷ []) a ps pi

-- what was written is shown by its rows: the first, and all
module _ (q : Property) (a : List Property) (ps : List ℕ) (pi : ℕ) (room : (pi + length (q ∷ a)) * property_width ≤ length ps) where
  pub first-shown : shown_by_lem (row_at property_width pi (write_properties (q ∷ a) ps pi)) ≡ q
  unfolding write_properties
  first-shown =
      let m : length (map property_row (q ∷ a)) ≡ length (q ∷ a) = simp length-map in
      ap shown_by_lem (put_first property_width ps pi (property_row q) (map property_row a) (properties_wide (q ∷ a)) (omega (arith, room, m)))

pub all_shown : (a : List Property) (ps : List ℕ) (pi : ℕ) → (pi + length a) * property_width ≤ length ps → properties_from (write_properties a ps pi) pi (length a) ≡ a
unfolding properties_from
all_shown [] ps pi room = refl
all_shown (q ∷ a) ps pi room =
    let p = put property_width ps pi (property_row q ∷ []) in
    let l = put-length property_width ps pi (property_row q ∷ []) in
    ap₂ ◌∷◌ (first-shown q a ps pi room)
    (ap (λ rows. properties_from rows (pi + 1) (length a)) (properties-more q a ps pi) ∙ all_shown a p (pi + 1) (omega (arith, room, l)))

-- ---- controls
pub write-none : (st : State) → write_controls [] st ≡ st
unfolding write_controls theirs control_rows_from concat
write-none st =
    let a = put-none control_width st.cs st.ci in
    let b : st.ci + 0 ≡ st.ci = omega arith in
    let c = put-none property_width st.ps st.pi in
    let d : st.pi + 0 ≡ st.pi = omega arith in
    λ i. state (a i) (b i) (c i) (d i)

pub write-append : (a b : List Control) (st : State) → write_controls (a ++ b) st ≡ write_controls b (write_controls a st)
unfolding write_controls
write-append a b st =
    let t = theirs_total a in
    let r : put control_width st.cs st.ci (control_rows_from st.ci st.pi (a ++ b))
    ≡ put control_width (put control_width st.cs st.ci (control_rows_from st.ci st.pi a)) (st.ci + length a) (control_rows_from (st.ci + length a) (st.pi + length (theirs a)) b) =
    ap (put control_width st.cs st.ci) (rows_append st.ci st.pi a b)
    ∙ put-append control_width st.cs st.ci (control_rows_from st.ci st.pi a) _ (controls_wide st.ci st.pi a)
    ∙ ap₂ (λ k n. put control_width (put control_width st.cs st.ci (control_rows_from st.ci st.pi a)) (st.ci + k) (control_rows_from (st.ci + length a) (st.pi + n) b)) (control-rows-many st.ci st.pi a) t in
    let n : st.ci + length (a ++ b) ≡ st.ci + length a + length b = omega (arith, length-append a b) in
    let q : put property_width st.ps st.pi (map property_row (theirs (a ++ b)))
    ≡ put property_width (put property_width st.ps st.pi (map property_row (theirs a))) (st.pi + length (theirs a)) (map property_row (theirs b)) =
    ap (λ l. put property_width st.ps st.pi (map property_row l)) (theirs-append a b) ∙ put_both (theirs a) (theirs b) st.ps st.pi in
    let m : st.pi + length (theirs (a ++ b)) ≡ st.pi + length (theirs a) + length (theirs b) =
    ap (λ l. st.pi + length l) (theirs-append a b) ∙ omega (arith, length-append (theirs a) (theirs b)) in
    λ i. state (r i) (n i) (q i) (m i)

-- one control: its properties written, then its row
pub write-one : (c : Control) (st : State)
    → write_controls (c ∷ []) st
    ≡ state (put control_width st.cs st.ci (control_row st.ci st.pi c ∷ [])) (st.ci + 1) (write_properties c.properties st.ps st.pi) (st.pi + length c.properties)
unfolding write_controls write_properties control_rows_from
write-one c st =
    let e = theirs-one c in
    λ i. state (put control_width st.cs st.ci (control_row st.ci st.pi c ∷ [])) (st.ci + 1) (put property_width st.ps st.pi (map property_row (e i))) (st.pi + length (e i))

-- the slices stay as long as they are
pub write_lengths : (a : List Control) (st : State) → (length (write_controls a st).cs ≡ length st.cs) × (length (write_controls a st).ps ≡ length st.ps)
unfolding write_controls
write_lengths a st = (put-length control_width st.cs st.ci _, put-length property_width st.ps st.pi _)

-- ---- a whole reading: the object's properties, then the controls
pub reading-written : (r : Reading) (cs ps : List ℕ)
    → write_controls r.controls (state cs 0 (write_properties r.own ps 0) (length r.own))
    ≡ state (written (control_rows r) cs) (length r.controls) (written (property_rows r) ps) (length (properties r))
unfolding write_controls write_properties control_rows property_rows properties theirs
reading-written r cs ps =
    let a = written-put control_width cs (control_rows_from 0 (length r.own) r.controls) in
    let b : 0 + length r.controls ≡ length r.controls = omega arith in
    let n : 0 + length r.own ≡ length r.own = omega arith in
    let c : put property_width (put property_width ps 0 (map property_row r.own)) (length r.own) (map property_row (concat (map properties_of r.controls)))
    ≡ written (map property_row (r.own ++ concat (map properties_of r.controls))) ps =
    sym (sym (written-put property_width ps _) ∙ put_both r.own (concat (map properties_of r.controls)) ps 0
    ∙ ap (λ k. put property_width (put property_width ps 0 (map property_row r.own)) k (map property_row (concat (map properties_of r.controls)))) n) in
    let d : length r.own + length (concat (map properties_of r.controls)) ≡ length (r.own ++ concat (map properties_of r.controls)) =
    sym (length-append r.own (concat (map properties_of r.controls))) in
    λ i. state (a i) (b i) (c i) (d i)
