-- What writing the rows of some controls does to the two lent slices, whatever the layout: it determines every word of both.
use Rattle.std.specs.Prelude.{ℕ, ◌+◌, ◌*◌, ◌≤◌, List, map, length}
use Rattle.rules.specs.Lists.{concat}
use Rattle.rules.specs.Rows.{control_width, property_width}
use Rattle.rules.specs.Reading.{Control, properties_of, control_rows_from, property_row}
use Rattle.rules.specs.declared.Property.{Property}
use Rattle.rows.specs.Put.{put}

-- the control rows and the next of them, the property rows and the next of them
pub record State : Type 0 where
  pub cs : List ℕ
  pub ci : ℕ
  pub ps : List ℕ
  pub pi : ℕ

abbrev pub state : List ℕ → ℕ → List ℕ → ℕ → State
state cs ci ps pi = record { cs = cs; ci = ci; ps = ps; pi = pi }

-- the properties of controls, in output order
unfoldable pub theirs : List Control → List Property
theirs cs = concat (map properties_of cs)

unfoldable pub write_controls : List Control → State → State
write_controls cs st =
    state (put control_width st.cs st.ci (control_rows_from st.ci st.pi cs)) (st.ci + length cs)
    (put property_width st.ps st.pi (map property_row (theirs cs))) (st.pi + length (theirs cs))

unfoldable pub write_properties : List Property → List ℕ → ℕ → List ℕ
write_properties qs ps pi = put property_width ps pi (map property_row qs)

-- there is room for the rows of these controls
pub record Room (cs : List Control) (st : State) : Type 0 where
  pub controls : (st.ci + length cs) * control_width ≤ length st.cs
  pub properties : (st.pi + length (theirs cs)) * property_width ≤ length st.ps
