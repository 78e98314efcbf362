-- Why a text makes no table, by number; 0 says that nothing is wrong.
use Rattle.std.specs.Prelude.{ℕ}
use Rattle.tablelines.specs.declared.faults.Fault.{Fault}
use Rattle.tablelines.specs.declared.faults.Fault.TheVariants.{NoLayout, LayoutFirst, LayoutTwice, UnknownWord, TwoDigits, FourDigits, ManyWords, UnknownKind, HeaderLate, HeaderOrder, ManyHeaders, ScopeOrder, ManyScopes, RowEarly, IdOrder, IdHigh, TargetHigh, LongText, NoRoom}

-- ---- of the lines together
abbrev pub no_layout : ℕ
no_layout = 1

abbrev pub layout_first : ℕ
layout_first = 2

abbrev pub layout_twice : ℕ
layout_twice = 3

-- ---- of the words of a line; 17, too, though it stands among the rules
abbrev pub unknown_word : ℕ
unknown_word = 4

abbrev pub two_digits_lem : ℕ
two_digits_lem = 5

abbrev pub four_digits : ℕ
four_digits = 6

abbrev pub many_words : ℕ
many_words = 7

abbrev pub unknown_kind : ℕ
unknown_kind = 17

-- ---- of a table's rules
abbrev pub header_late : ℕ
header_late = 8

abbrev pub header_order : ℕ
header_order = 9

abbrev pub many_headers : ℕ
many_headers = 10

abbrev pub scope_order : ℕ
scope_order = 11

abbrev pub many_scopes : ℕ
many_scopes = 12

abbrev pub row_early : ℕ
row_early = 13

abbrev pub id_order : ℕ
id_order = 14

abbrev pub id_high : ℕ
id_high = 15

abbrev pub target_high : ℕ
target_high = 16

-- ---- of the text as a whole
abbrev pub long_text : ℕ
long_text = 18

abbrev pub no_room_lem : ℕ
no_room_lem = 19

-- ---- the number of a fault
abbrev pub number_lem : Fault → ℕ
number_lem NoLayout = no_layout
number_lem LayoutFirst = layout_first
number_lem LayoutTwice = layout_twice
number_lem UnknownWord = unknown_word
number_lem TwoDigits = two_digits_lem
number_lem FourDigits = four_digits
number_lem ManyWords = many_words
number_lem UnknownKind = unknown_kind
number_lem HeaderLate = header_late
number_lem HeaderOrder = header_order
number_lem ManyHeaders = many_headers
number_lem ScopeOrder = scope_order
number_lem ManyScopes = many_scopes
number_lem RowEarly = row_early
number_lem IdOrder = id_order
number_lem IdHigh = id_high
number_lem TargetHigh = target_high
number_lem LongText = long_text
number_lem NoRoom = no_room_lem
