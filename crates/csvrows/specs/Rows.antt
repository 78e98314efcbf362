-- The text that the rows in two slices give.
use Rattle.std.specs.Prelude.{ℕ, zero, suc, ◌+◌, ◌≤◌, List, [], ◌++◌, length}
use Rattle.rules.specs.Rows.{control_width, property_width, row_at}
use Rattle.rules.specs.Listing.{word}
use Rattle.rules.specs.Csv.{record_text, header}
use Rattle.names.specs.Lookup.{Lent}
use Rattle.csvrecord.specs.Parts.{owner_text, tail_text, owned_record}
use Rattle.csvrecord.specs.declared.Owner.{Owner}
use Rattle.csvrows.specs.declared.Run.{Run}

-- k property rows from row `first` on, each by its line
unfoldable pub lines_from : (List ℕ → List ℕ) → List ℕ → ℕ → ℕ → List ℕ
lines_from line rows first zero = []
lines_from line rows first (suc k) = line (row_at property_width first rows) ++ lines_from line rows (first + 1) k

-- those of one owner
abbrev pub rows_text : List ℕ → Owner → List ℕ → ℕ → ℕ → List ℕ
rows_text stream owner rows first k = lines_from (λ row. record_text (owned_record stream owner row)) rows first k

-- the same, where the owner's fields are told as they are written
abbrev pub tails_text : List ℕ → List ℕ → List ℕ → ℕ → ℕ → List ℕ
tails_text stream owner rows first k = lines_from (λ row. owner ++ tail_text stream row) rows first k

abbrev pub control_at : List ℕ → ℕ → List ℕ
control_at controls n = row_at control_width n controls

-- how many property rows k controls from control n on say that they have
unfoldable pub many_from : List ℕ → ℕ → ℕ → ℕ
many_from controls n zero = 0
many_from controls n (suc k) = word (control_at controls n) 5 + many_from controls (n + 1) k

-- k controls from control n on, each by its part: the control's number, its row, and the first of its property rows
unfoldable pub parts_from : (ℕ → List ℕ → ℕ → List ℕ) → List ℕ → ℕ → ℕ → ℕ → List ℕ
parts_from part controls n zero first = []
parts_from part controls n (suc k) first = part n (control_at controls n) first ++ parts_from part controls (n + 1) k (first + word (control_at controls n) 5)

-- a control: its properties, which begin at row `first`
abbrev pub control_text : List ℕ → List ℕ → ℕ → List ℕ → ℕ → List ℕ
control_text stream rows n control first = rows_text stream (Owner.Control n (word control 0)) rows first (word control 5)

abbrev pub controls_text : List ℕ → List ℕ → List ℕ → ℕ → ℕ → ℕ → List ℕ
controls_text stream controls rows n k first = parts_from (control_text stream rows) controls n k first

unfoldable pub slices_text : List ℕ → List ℕ → ℕ → List ℕ → ℕ → List ℕ
slices_text stream controls count rows own = record_text header ++ (rows_text stream Owner.Object rows 0 own ++ controls_text stream controls rows 0 count own)

-- a number of 32 bits
abbrev pub most : ℕ
most = 0xFFFFFFFF

-- the names are lent, and the rows' numbers fit
pub record RowsReady (index letters : List ℕ) (first count : ℕ) : Type 0 where
  pub lent : Lent index letters
  pub few : first + count ≤ most

-- and the owner's fields are no longer than the room for them
pub record OwnedReady (index letters : List ℕ) (owner : Owner) (run : Run) : Type 0 where
  pub ready : RowsReady index letters run.first run.count
  pub short : length (owner_text owner) ≤ 16

pub record ControlsReady (index letters controls : List ℕ) (count first : ℕ) : Type 0 where
  pub lent : Lent index letters
  pub some_left : count ≤ most
  pub few : first + many_from controls 0 count ≤ most
