-- The listing by what a reader hands back: its answer, and the rows in the slices lent to it.
use Rattle.std.specs.Prelude.{ℕ, zero, suc, cond, List, [], ◌++◌, eqb}
use Rattle.rules.specs.Rows.{control_width, property_width, type_info_width, row_at}
use Rattle.rules.specs.Blob.{Exit}
use Rattle.rules.specs.Listing.{answer_line, control_line, property_line}
use Rattle.listing.specs.InfoLine.{info_line}
use Rattle.listing.specs.declared.Kind.{Kind}

-- ---- by what the rows are of
abbrev pub line_of : Kind → List ℕ → ℕ → List ℕ → List ℕ
line_of Kind.Control stream = control_line stream
line_of Kind.Property stream = property_line stream
line_of Kind.Info stream = info_line stream

abbrev pub width_of : Kind → ℕ
width_of Kind.Control = control_width
width_of Kind.Property = property_width
width_of Kind.Info = type_info_width

-- the lines of the first k rows of a slice, each `width` words wide
unfoldable pub lines_to : (ℕ → List ℕ → List ℕ) → ℕ → ℕ → List ℕ → List ℕ
lines_to line_of width zero words = []
lines_to line_of width (suc k) words = lines_to line_of width k words ++ line_of k (row_at width k words)

-- "on 0 the C lines .., then the P lines": as many as the answer counts
unfoldable pub shown : List ℕ → Exit → List ℕ
shown stream e =
    answer_line e.answer
    ++ cond (eqb e.answer.number 0)
    (lines_to (control_line stream) control_width e.answer.first e.controls
    ++ lines_to (property_line stream) property_width e.answer.second e.properties)
    []
