-- What a line says: nothing, the layout byte, a header code, a scope, a row, or something that can't be taken.
use Rattle.std.specs.Prelude.{ℕ, ◌+◌, ◌≤◌, ◌<◌, ◌≡◌, Bool, true, false, cond, Option, Some, None, Result, Ok, Err, List, ◌∷◌, ◌++◌, map, ltb, eqb, length, drop, get_or}
use Rattle.rules.specs.Lists.{text, same}
use Rattle.tablelines.specs.Faults.{unknown_word, two_digits_lem, four_digits, many_words, unknown_kind, number_lem}
use Rattle.tablelines.specs.Words.{lines_of, before, sign, word, after_word, two_of, four_of, row_kind_of}
use Rattle.tablelines.specs.declared.faults.Fault.{Fault}
use Rattle.tablelines.specs.declared.faults.Fault.TheVariants.{ManyWords}
use Rattle.tablelines.specs.declared.Item.{Item as Taken}
use Rattle.tablelines.specs.declared.Item.TheVariants.{Nothing as nothing, Layout as layout, Header as header, Scope as scope, Row as row}
use Rattle.tablelines.specs.declared.Line.{Line}

-- a line's item, or the number of its fault
pub data Item : Type 0 where
  Nothing : Item
  Layout : (byte : ℕ) → Item
  Header : (code : ℕ) → Item
  Scope : (kind code : ℕ) → Item
  Row : (id target kind : ℕ) → Item
  Bad : (error : ℕ) → Item

-- ---- the item of a line's words
-- why a line of one number can't be taken, 0 where it can: it has a third word, or the second isn't a number up to `most`
unfoldable pub number_fault : ℕ → ℕ → ℕ → List ℕ → ℕ
number_fault number most digits third = cond (ltb 0 (length third)) many_words (cond (ltb most number) digits 0)

-- what a line says, or its fault
unfoldable pub unless : ℕ → Item → Item
unless fault item = cond (eqb fault 0) item (Bad fault)

-- "layout 13"
unfoldable pub layout_item : List ℕ → List ℕ → Item
layout_item second third = unless (number_fault (two_of second) 255 two_digits_lem third) (Layout (two_of second))

-- "header 0099"
unfoldable pub header_item : List ℕ → List ℕ → Item
header_item second third = unless (number_fault (four_of second) 65535 four_digits third) (Header (four_of second))

-- "entry 0064"
unfoldable pub entry_item : List ℕ → List ℕ → Item
entry_item second third = unless (number_fault (four_of second) 65535 four_digits third) (Scope 2 (four_of second))

-- "form" and "report", by the kind of scope
unfoldable pub plain_scope_item : ℕ → List ℕ → Item
plain_scope_item kind second = cond (ltb 0 (length second)) (Bad many_words) (Scope kind 0)

-- "60 0036 number": id, target and kind, and there is no fourth word
unfoldable pub row_item : List ℕ → List ℕ → List ℕ → Bool → Item
row_item first second third more =
    cond (ltb 255 (two_of first)) (Bad unknown_word)
    (cond more (Bad many_words)
    (cond (ltb 65535 (four_of second)) (Bad four_digits)
    (cond (ltb 4 (row_kind_of third)) (Bad unknown_kind)
    (Row (two_of first) (four_of second) (row_kind_of third)))))

-- the first word says what a line is; a line without words says nothing
unfoldable pub item_by : List ℕ → List ℕ → List ℕ → Bool → Item
item_by first second third more =
    cond (eqb (length first) 0) Nothing
    (cond (same first (text "layout")) (layout_item second third)
    (cond (same first (text "header")) (header_item second third)
    (cond (same first (text "form")) (plain_scope_item 0 second)
    (cond (same first (text "report")) (plain_scope_item 1 second)
    (cond (same first (text "entry")) (entry_item second third)
    (row_item first second third more))))))

-- the item of the words of s
unfoldable pub item_in : List ℕ → Item
item_in s = item_by (word s) (word (after_word s)) (word (after_word (after_word s))) (ltb 0 (length (word (after_word (after_word (after_word s))))))

-- the item of a line: what stands from a # on is a remark
unfoldable pub item_of : List ℕ → Item
item_of line = item_in (before sign line)

-- the items of a text, one for each line
unfoldable pub items_of : List ℕ → List Item
items_of s = map item_of (lines_of s)

-- ---- what the code hands on
-- what it says of a line
abbrev pub said : Result Taken Fault → Item
said (Ok nothing) = Nothing
said (Ok (layout byte)) = Layout byte
said (Ok (header code)) = Header code
said (Ok (scope kind code)) = Scope kind code
said (Ok (row id target kind)) = Row id target kind
said (Err fault) = Bad (number_lem fault)

-- a number, where it isn't the one that stands for none
abbrev pub below : ℕ → ℕ → Option ℕ
below most n = cond (ltb n most) (Some n) None

-- a number that stands alone in its line
abbrev pub or_fault : {A : Type 0} → Option A → Fault → Result A Fault
or_fault (Some n) fault = Ok n
or_fault None fault = Err fault

abbrev pub lone : {A : Type 0} → Option A → List ℕ → Fault → Result A Fault
lone number third digits = cond (eqb (length third) 0) (or_fault number digits) (Err ManyWords)

-- the bytes in front of the first one that passes the test, and those from it on
pub record Cut (Test : ℕ → Bool → Type 0) (s front back : List ℕ) : Type 0 where
  pub joined : s ≡ front ++ back
  pub passed : (k : ℕ) → k < length front → Test (get_or front k 0) false
  pub stopped : 0 < length back → Test (get_or back 0 0) true

-- the line at a place, and the place of the next one
pub record LineAt (s : List ℕ) (at : ℕ) (r : Line) : Type 0 where
  pub is : items_of (drop at s) ≡ said r.item ∷ items_of (drop r.next s)
  pub on : at < r.next
  pub within : r.next ≤ length s + 1
