-- Controls by their rows, and the names of the rows before one.
use Rattle.std.specs.Prelude.{ℕ, zero, suc, ◌+◌, ◌*◌, ◌-◌, ◌≤◌, ◌<◌, ◌≡◌, cond, List, [], ◌∷◌, eqb, length}
use Rattle.std.proofs.Math.Option.{Option, none, some}
use Rattle.rules.specs.Bytes.{part}
use Rattle.rules.specs.Rows.{control_width, row_at}
use Rattle.rules.specs.Listing.{word}
use Rattle.rules.specs.Reading.{Control}
use Rattle.rules.specs.declared.Property.{Property}
use Rattle.rules.specs.declared.Name.{Name}
use Rattle.rules.specs.declared.Name.TheVariants.{Text, Numbered, Loose}
use Rattle.rules.specs.Panel.{kept, first_broken}
use Rattle.rows.specs.Get.{properties_from}

-- ---- words
abbrev pub row_of : List ℕ → ℕ → List ℕ
row_of cs i = row_at control_width i cs

abbrev pub mark_at : List ℕ → ℕ → ℕ
mark_at cs i = word (row_of cs i) 1

abbrev pub start_at : List ℕ → ℕ → ℕ
start_at cs i = word (row_of cs i) 2

abbrev pub size_at : List ℕ → ℕ → ℕ
size_at cs i = word (row_of cs i) 3

abbrev pub first_at : List ℕ → ℕ → ℕ
first_at cs i = word (row_of cs i) 4

abbrev pub count_at : List ℕ → ℕ → ℕ
count_at cs i = word (row_of cs i) 5

-- ---- controls
abbrev pub name_by_lem : ℕ → ℕ → ℕ → Name
name_by_lem mark start size = cond (eqb mark 0) (Text start size) (cond (eqb mark 1) Numbered (Loose start size))

unfoldable pub control_by : List ℕ → List ℕ → Control
control_by row ps = record {
  type = word row 0;
  name = name_by_lem (word row 1) (word row 2) (word row 3);
  properties = properties_from ps (word row 4) (word row 5);
  level = word row 6;
  parent = word row 7;
}

-- n controls from row i on
unfoldable pub controls_from : List ℕ → List ℕ → ℕ → ℕ → List Control
controls_from cs ps i zero = []
controls_from cs ps i (suc n) = control_by (row_of cs i) ps ∷ controls_from cs ps (i + 1) n

-- the bytes that row i names, and those that the rows before row n name, the last of them first
abbrev pub bytes_at : List ℕ → List ℕ → ℕ → List ℕ
bytes_at s cs i = part s (start_at cs i) (size_at cs i)

unfoldable pub names_before : List ℕ → List ℕ → ℕ → List (List ℕ)
names_before s cs zero = []
names_before s cs (suc n) = bytes_at s cs n ∷ names_before s cs n

-- ---- properties from one row to another
abbrev pub between : List ℕ → ℕ → ℕ → List Property
between ps from to = properties_from ps from (to - from)

-- ---- what is asked of the rows that are judged
abbrev pub Inside : List ℕ → List ℕ → ℕ → Type 0
Inside s cs i = start_at cs i + size_at cs i ≤ length s

-- n rows are lent; what a row with mark 0 names is in the stream; the property rows' numbers have 32 bits
pub record Rows (s cs : List ℕ) (n : ℕ) : Type 0 where
  pub lent : n * control_width ≤ length cs
  pub named : (i : ℕ) → i < n → mark_at cs i ≡ 0 → Inside s cs i
  pub counted : (i : ℕ) → i < n → first_at cs i + count_at cs i ≤ 0xFFFFFFFF

-- the rows before row i are lent, and what they name is in the stream
pub record Before (s cs : List ℕ) (i : ℕ) : Type 0 where
  pub lent : i * control_width ≤ length cs
  pub inside : (j : ℕ) → j < i → Inside s cs j

-- the rule that a row breaks, or 0
abbrev pub rule_or0 : Option ℕ → ℕ
rule_or0 none = 0
rule_or0 (some rule) = rule

unfoldable pub rule_of : List ℕ → List ℕ → List ℕ → ℕ → ℕ
rule_of s cs ps i = rule_or0 (first_broken 1 (kept s i (names_before s cs i) (control_by (row_of cs i) ps)))
