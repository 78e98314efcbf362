-- What is printed for a stream that is counted into a record: the line of the answer, and after it the record at exit.
use Rattle.std.specs.Prelude.{ℕ, zero, suc, ◌+◌, ◌/◌, ◌%◌, cond, List, [], ◌∷◌, ◌++◌, ltb, length, take, drop}
use Rattle.rules.specs.Bytes.{u32, two_bytes_lem}
use Rattle.rules.specs.Answer.{refusal, bad_table}
use Rattle.rules.specs.Listing.{answer_line}
use Rattle.rules.specs.Totals.{totals_exit}
use Rattle.rules.specs.declared.Totals.{Totals}
use Rattle.rules.specs.declared.Totalled.{Totalled}

-- ---- the input: room for controls and for properties, the record, the table's length, all in numbers of four bytes; then the table, and the stream
-- so many numbers, from a place on
unfoldable pub numbers_at : List ℕ → ℕ → ℕ → List ℕ
numbers_at s at zero = []
numbers_at s at (suc n) = u32 s at ∷ numbers_at s (at + 4) n

abbrev pub control_room_in : List ℕ → ℕ
control_room_in input = u32 input 0

abbrev pub property_room_in : List ℕ → ℕ
property_room_in input = u32 input 4

-- the record's numbers in the order of its parts, as C has them in memory
unfoldable pub record_in : List ℕ → Totals
record_in input = record {
  answers = numbers_at input 8 6;
  types = numbers_at input 32 31;
  unmapped = u32 input 156;
  mapped = u32 input 160;
  marks = numbers_at input 164 9;
}

abbrev pub table_length_in : List ℕ → ℕ
table_length_in input = u32 input 200

abbrev pub table_in : List ℕ → List ℕ
table_in input = take (table_length_in input) (drop 204 input)

abbrev pub stream_in : List ℕ → List ℕ
stream_in input = drop (204 + table_length_in input) input

-- ---- what is printed
-- a number as four bytes, the lowest first
abbrev pub four_bytes_lem : ℕ → List ℕ
four_bytes_lem n = two_bytes_lem (n % 65536) ++ two_bytes_lem (n / 65536)

unfoldable pub number_bytes : List ℕ → List ℕ
number_bytes [] = []
number_bytes (n ∷ ns) = four_bytes_lem n ++ number_bytes ns

unfoldable pub record_bytes : Totals → List ℕ
record_bytes t = number_bytes t.answers ++ (number_bytes t.types ++ (four_bytes_lem t.unmapped ++ (four_bytes_lem t.mapped ++ number_bytes t.marks)))

unfoldable pub said : Totalled → List ℕ
said e = answer_line e.answer ++ record_bytes e.totals

-- of a table and a stream, counted into the record of an input in its room
abbrev pub said_for : List ℕ → List ℕ → List ℕ → List ℕ
said_for input table stream = said (totals_exit (record_in input) table stream (control_room_in input) (property_room_in input))

-- an input that is too short for its table is refused as a bad table, and no record is printed
unfoldable pub counted : List ℕ → List ℕ
counted input =
    cond (ltb (length input) 204) (answer_line (refusal bad_table))
    (cond (ltb (length input) (204 + table_length_in input)) (answer_line (refusal bad_table))
    (said_for input (table_in input) (stream_in input)))

-- so many bytes are read: with a table of 65,536 bytes, one more than the longest stream has, so that a longer one is answered 5 whatever comes after it
abbrev pub most_read : ℕ
most_read = 16842957

unfoldable pub counted_of_lem : List ℕ → List ℕ
counted_of_lem input = counted (take most_read input)

-- an answer's line and the record are no longer than this
abbrev pub most_said : ℕ
most_said = 51 + 192
