-- Worked texts: one that is taken, the ways in which it may be written, and one for each error number.
use Prim.Native.Nat.{ℕ, zero, suc, ◌+◌}
use mathlib.Core.Path.{◌≡◌, refl}
use mathlib.Core.List.{List, [], ◌∷◌, ◌++◌}
use Rattle.rules.specs.Lists.{text}
use Rattle.rules.specs.Digits.{hex}
use Rattle.rules.specs.Dump.{dump}
use Rattle.rules.proofs.OpenBytes.{bytes_open}
use Rattle.rules.proofs.OpenNames.{names_open}
use Rattle.rules.proofs.OpenTables.{join_open}
use Rattle.tabletext.specs.Text as shown
use Rattle.tablelines.specs.Words.{onto, lines_of, is_blank, stops, before, onward, word, after_word, digit_of, byte_of, two_of, code_of, four_of, row_kind_of}
use Rattle.tablelines.specs.Items.{number_fault, unless, layout_item, header_item, plain_scope_item, entry_item, row_item, item_by, item_in, item_of, items_of}
use Rattle.tablemaking.specs.Judged.{after, header_fault, scope_fault, row_fault, below_layout, layout_fault, fault_of, broken, judge_end, judge_from, judged}
use Rattle.tablemaking.specs.Made.{by_part_lem, headers_of, rows_of, scopes_of, table_said, refused, written, make_exit}

-- to unfold these is to unfold the definitions that they list
unfoldable pub lines_open : ℕ
unfolding bytes_open join_open onto lines_of is_blank stops before onward word after_word digit_of byte_of two_of code_of four_of row_kind_of number_fault unless layout_item header_item plain_scope_item entry_item row_item item_by item_in item_of items_of
lines_open = 0

unfoldable pub made_open : ℕ
unfolding lines_open after header_fault scope_fault row_fault below_layout layout_fault fault_of judge_end judge_from judged by_part_lem headers_of rows_of scopes_of table_said make_exit
made_open = 0

unfoldable pub shown_open : ℕ
unfolding bytes_open join_open names_open shown.remark shown.kind_word shown.kind_mark shown.row_line shown.row_lines shown.scope_name shown.type_remark shown.scope_line shown.scope_lines shown.header_line shown.header_lines shown.table_text
shown_open = 0

-- ---- the example of tabletext/specs/Text.antt: its text, and its table
abbrev pub example : List ℕ
example =
    text "layout 13\n"
    ++ text "header 0099\n"
    ++ text "\n"
    ++ text "form\n"
    ++ text "14 013A number\n"
    ++ text "\n"
    ++ text "entry 0064  # Label\n"
    ++ text "60 0036 number  # Left\n"
    ++ text "DC 0014 text  # Name\n"

abbrev pub table : List ℕ
table =
    dump "13 01  02 00  99 00"  -- one header code; two scopes
    ++ dump "00 00 00  01 00"  -- form: one row
    ++ dump "02 64 00  02 00"  -- entry 0x0064: two
    ++ dump "14  3A 01  00"
    ++ dump "60  36 00  00"
    ++ dump "DC  14 00  01"

pub example_said :
    (judged example ≡ record { error = 0; line = 0; layout = 0x13; headers = 1; scopes = 2; rows = 3 })
    × (table_said example ≡ table)
    × (make_exit example (7 ∷ []) ≡ refused 19 0 (7 ∷ []))  -- too little room
    × (make_exit example (table ++ (7 ∷ [])) ≡ written table (table ++ (7 ∷ [])))  -- what stands after it stays
unfolding made_open
example_said = (refl, refl, refl, refl)

-- the text that is shown of it has one remark more, and says the same
abbrev pub example_text : List ℕ
example_text =
    text "layout 13\n"
    ++ text "header 0099\n"
    ++ text "\n"
    ++ text "form\n"
    ++ text "14 013A number  # DividingLines\n"
    ++ text "\n"
    ++ text "entry 0064  # Label\n"
    ++ text "60 0036 number  # Left\n"
    ++ text "DC 0014 text  # Name\n"

pub example_shown : shown.table_text table ≡ example_text
unfolding shown_open
example_shown = refl

pub shown-said : table_said example_text ≡ table
unfolding made_open
shown-said = refl

-- ---- how a text may be written
abbrev short : List ℕ
short = dump "13 00  01 00  02 64 00  01 00  DC 1A 01 04"

pub ways :
    (table_said (text "layout 13\nentry 0064\nDC 011A bytes\n") ≡ short)
    × (table_said (text "layout 13\r\nentry 0064\r\nDC 011A bytes\r\n") ≡ short)  -- ends of CR and LF
    × (table_said (text "layout 13\nentry 0064\nDC 011A bytes") ≡ short)  -- the last line without an end
    × (table_said (text "\tlayout\t13  \n  entry\t 0064\t\nDC\t011A\tbytes") ≡ short)  -- tabs and blanks
    × (table_said (text "layout 13\nentry 0064\ndc 011a bytes\n") ≡ short)  -- small hex letters
    × (table_said (text "layout 13\nentry 0064\nDc 011a bytes\n") ≡ short)
    × (table_said (text "layout 13# x\nentry 0064#Label\nDC 011A bytes#\n") ≡ short)  -- a remark right after a word
    × (table_said (text "# layout 14\n\n  \t\r\nlayout 13 # layout 14 # x\n\nentry 0064\n#\nDC 011A bytes\n\n\n") ≡ short)  -- lines that say nothing
    × (judged (text "layout 13\nentry 0064\nDC 011A bytes") ≡ record { error = 0; line = 0; layout = 0x13; headers = 0; scopes = 1; rows = 1 })
    × (table_said (text "layout FF") ≡ dump "FF 00  00 00")  -- a layout alone
    × (table_said (text "layout ff\nform\nreport\nentry 0000\nentry FFFF") ≡ dump "FF 00  04 00  00 00 00  00 00  01 00 00  00 00  02 00 00  00 00  02 FF FF  00 00")  -- scopes without rows
    × (table_said (text "layout 00\nheader 0000\nheader 0001\nheader 0100\nheader FFFF") ≡ dump "00 04  00 00  00 00  01 00  00 01  FF FF")  -- four header codes
    × (table_said (text "layout 01\nform\n00 0000 number\n01 0001 text\n7F 1234 guid\n80 7FFE double\nFC 7FFF bytes")
    ≡ dump "01 00  01 00  00 00 00  05 00  00 00 00 00  01 01 00 01  7F 34 12 02  80 FE 7F 03  FC FF 7F 04")  -- the five kinds, the first and the last row
    × (table_said (text "layout 01\nform\n05 0000 number\nreport\n05 0000 number\nentry 0005\n04 0000 number")
    ≡ dump "01 00  03 00  00 00 00  01 00  01 00 00  01 00  02 05 00  01 00  05 00 00 00  05 00 00 00  04 00 00 00")  -- each scope begins anew
unfolding made_open
ways = (refl, refl, refl, refl, refl, refl, refl, refl, refl, refl, refl, refl, refl, refl)

-- ---- which line breaks which rule
-- m entries of the codes n, n + 1, ..
abbrev many : ℕ → ℕ → List ℕ
many n zero = []
many n (suc m) = text "entry " ++ (hex 4 n ++ (text "\n" ++ many (n + 1) m))

pub no-layout :  -- 1, below the last line
    (judged [] ≡ broken 1 1)
    × (judged (text "\n") ≡ broken 1 2)
    × (judged (text "# layout 13\n\n#") ≡ broken 1 4)
unfolding made_open
no-layout = (refl, refl, refl)

pub layouts :
    (judged (text "\nform\n") ≡ broken 2 2)  -- a layout stands first
    × (judged (text "header 0099\nlayout 13\n") ≡ broken 2 1)
    × (judged (text "60 0036 number\nlayout 13\n") ≡ broken 2 1)
    × (judged (text "layout 13\nform\nlayout 13\n") ≡ broken 3 3)  -- one layout
unfolding made_open
layouts = (refl, refl, refl, refl)

pub words :
    (judged (text "layout 13\nforms\n") ≡ broken 4 2)  -- no word that a line begins with
    × (judged (text "layout 13\nForm\n") ≡ broken 4 2)
    × (judged (text "layout 13\nform\n6 0036 number\n") ≡ broken 4 3)  -- an id has two digits
    × (judged (text "layout 13\nform\n060 0036 number\n") ≡ broken 4 3)
    × (judged (text "layout 13\nform\n6G 0036 number\n") ≡ broken 4 3)
    × (judged (text "layout\n") ≡ broken 5 1)  -- a layout has two digits
    × (judged (text "layout 3\n") ≡ broken 5 1)
    × (judged (text "layout 0x13\n") ≡ broken 5 1)
    × (judged (text "layout 1g\n") ≡ broken 5 1)
    × (judged (text "layout 13\nheader 99\n") ≡ broken 6 2)  -- a code has four
    × (judged (text "layout 13\nentry 00064\n") ≡ broken 6 2)
    × (judged (text "layout 13\nentry\n") ≡ broken 6 2)
    × (judged (text "layout 13\nform\n60 36 number\n") ≡ broken 6 3)
    × (judged (text "layout 13\nform\n60 003/ number\n") ≡ broken 6 3)
    × (judged (text "layout 13 x\n") ≡ broken 7 1)  -- a word more
    × (judged (text "layout 13\nheader 0099 x\n") ≡ broken 7 2)
    × (judged (text "layout 13\nform 0\n") ≡ broken 7 2)
    × (judged (text "layout 13\nreport 0\n") ≡ broken 7 2)
    × (judged (text "layout 13\nentry 0064 x\n") ≡ broken 7 2)
    × (judged (text "layout 13\nform\n60 0036 number x\n") ≡ broken 7 3)
    × (judged (text "layout 13\nform\n60 0036\n") ≡ broken 17 3)  -- a row has a kind
    × (judged (text "layout 13\nform\n60 0036 Number\n") ≡ broken 17 3)
unfolding made_open
words = (refl, refl, refl, refl, refl, refl, refl, refl, refl, refl, refl, refl, refl, refl, refl, refl, refl, refl, refl, refl, refl, refl)

pub rules :
    (judged (text "layout 13\nform\nheader 0099\n") ≡ broken 8 3)  -- a header code below a scope
    × (judged (text "layout 13\nheader 0099\nheader 0099\n") ≡ broken 9 3)  -- header codes ascend
    × (judged (text "layout 13\nheader 0099\n\nheader 0098\n") ≡ broken 9 4)
    × (judged (text "layout 13\nheader 0001\nheader 0002\nheader 0003\nheader 0004\nheader 0005\n") ≡ broken 10 6)  -- five
    × (judged (text "layout 13\nentry 0064\nentry 0064\n") ≡ broken 11 3)  -- scopes ascend
    × (judged (text "layout 13\nentry 0064\n\nentry 0063\n") ≡ broken 11 4)
    × (judged (text "layout 13\nreport\nform\n") ≡ broken 11 3)
    × (judged (text "layout 13\nentry 0000\nreport\n") ≡ broken 11 3)
    × (judged (text "layout 13\n60 0036 number\n") ≡ broken 13 2)  -- a row above the first scope
    × (judged (text "layout 13\nform\n60 0036 number\n60 0037 number\n") ≡ broken 14 4)  -- ids ascend
    × (judged (text "layout 13\nform\n60 0036 number\n5F 0037 number\n") ≡ broken 14 4)
    × (judged (text "layout 13\nform\nFD 0036 number\n") ≡ broken 15 3)  -- id 0xFD
    × (judged (text "layout 13\nform\n60 8000 number\n") ≡ broken 16 3)  -- target 0x8000
unfolding made_open
rules = (refl, refl, refl, refl, refl, refl, refl, refl, refl, refl, refl, refl, refl)

-- 64 scopes are taken, 65 aren't
pub scopes :
    (judged (text "layout 13\n" ++ many 1 64) ≡ record { error = 0; line = 0; layout = 0x13; headers = 0; scopes = 64; rows = 0 })
    × (judged (text "layout 13\n" ++ many 1 65) ≡ broken 12 66)
unfolding made_open
scopes = (refl, refl)

-- the words of a line are read before the table's rules are tried
pub words-first :
    (judged (text "sixty\nlayout 13\n") ≡ broken 4 1)
    × (judged (text "layout 13\nlayout zz\n") ≡ broken 5 2)
    × (judged (text "layout 13\n60 36 number\n") ≡ broken 6 2)
unfolding made_open
words-first = (refl, refl, refl)

-- ---- the text as a whole
-- (that it is too long: `Making.too_long`)
pub refusals :
    (make_exit (text "layout 13\nform 0064") (1 ∷ 2 ∷ []) ≡ refused 7 2 (1 ∷ 2 ∷ []))  -- nothing is written
    × (make_exit (text "layout 13") (1 ∷ 2 ∷ 3 ∷ []) ≡ refused 19 0 (1 ∷ 2 ∷ 3 ∷ []))
    × (make_exit (text "layout 13") (1 ∷ 2 ∷ 3 ∷ 4 ∷ []) ≡ written (dump "13 00 00 00") (1 ∷ 2 ∷ 3 ∷ 4 ∷ []))  -- just room enough
    × ((make_exit (text "layout 13") (1 ∷ 2 ∷ 3 ∷ 4 ∷ 5 ∷ [])).out ≡ dump "13 00 00 00 05")
unfolding made_open
refusals = (refl, refl, refl, refl)
