-- The lines of the rows in two slices.
use Rattle.std.specs.Prelude.{ℕ, zero, suc, ◌+◌, cond, List, ◌++◌, leb}
use Rattle.rules.specs.Rows.{property_width, row_at}
use Rattle.rules.specs.Listing.{word}
use Rattle.csvrows.specs.Rows.{lines_from, parts_from}
use Rattle.showlines.specs.Lines.{first_line, object_line, object_owner, control_owner, property_line, control_line}
use Rattle.showlines.specs.declared.Reading.{Reading}
use Rattle.showlines.specs.declared.Reading.TheVariants.{Form, Report, Tree, Scan, TooShort}
use Rattle.showlines.specs.declared.Owner.{Owner}
use Rattle.showlines.specs.declared.Counts.{Counts}

-- k properties of one owner, from row i on
abbrev pub rows_text : List ℕ → Owner → List ℕ → ℕ → ℕ → List ℕ
rows_text stream o rows i k = lines_from (property_line stream o) rows i k

-- a control: its line, and its properties, which begin at row `first`
abbrev pub control_text : List ℕ → List ℕ → Reading → List ℕ → ℕ → List ℕ → ℕ → List ℕ
control_text t stream reading rows n control first = control_line stream n control ++ rows_text stream (control_owner t reading control) rows first (word control 5)

-- k controls from control n on
abbrev pub controls_text : List ℕ → List ℕ → Reading → List ℕ → List ℕ → ℕ → ℕ → ℕ → List ℕ
controls_text t stream reading controls rows n k first = parts_from (control_text t stream reading rows) controls n k first

-- how many of k rows from row i on show a raw code: an id with the mark 0x8000
unfoldable pub one_if_unmapped : ℕ → ℕ
one_if_unmapped id = cond (leb 0x8000 id) 1 0

unfoldable pub unmapped_from : List ℕ → ℕ → ℕ → ℕ
unmapped_from rows i zero = 0
unmapped_from rows i (suc k) = one_if_unmapped (word (row_at property_width i rows) 0) + unmapped_from rows (i + 1) k

-- in the later layout no code is looked up
unfoldable pub unmapped_in : Reading → List ℕ → ℕ → ℕ
unmapped_in Form rows properties = unmapped_from rows 0 properties
unmapped_in Report rows properties = unmapped_from rows 0 properties
unmapped_in Tree rows properties = 0
unmapped_in Scan rows properties = 0
unmapped_in TooShort rows properties = 0

-- the first line, the object with its own properties, the controls with theirs
unfoldable pub slices_text : List ℕ → List ℕ → List ℕ → List ℕ → Counts → List ℕ
slices_text t stream controls rows c =
    first_line c.reading c.controls c.properties (unmapped_in c.reading rows c.properties)
    ++ (object_line c.reading
    ++ (rows_text stream (object_owner c.reading) rows 0 c.own
    ++ controls_text t stream c.reading controls rows 0 c.controls c.own))
