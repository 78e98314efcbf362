-- More worked examples of wish 7, by computation: values of each mark, Text that must be quoted, and what may stand in a text that is read.
use Prim.Native.Nat.{ℕ}
use mathlib.Core.Path.{◌≡◌, refl}
use mathlib.Core.List.{List, [], ◌∷◌, ◌++◌}
use mathlib.Core.Option.{none, some}
use lib.ListN.{replicate}
use Rattle.rules.specs.Lists.{text}
use Rattle.rules.specs.Answer.{answer}
use Rattle.rules.specs.Dump.{dump}
use Rattle.rules.specs.Examples.{old}
use Rattle.rules.specs.Csv.{crlf, field_text, value_text, csv_exit, fields_of, fields_exit}
use Rattle.rules.proofs.OpenCsv.{csv_open}

-- ---- written
-- a table of one scope for the form (05 as number 0x01C2) and one for type 0x64 (60 as number, DC text, DD GUID, DE double, DF bytes)
abbrev table : List ℕ
table = dump "2A 00  02 00  00 00 00 01 00  02 64 00 05 00" ++ dump "05 C2 01 00" ++ dump "60 36 00 00 DC 14 00 01 DD 9C 00 02 DE 9D 00 03 DF 9E 00 04"

-- the object: a flag, and text that isn't tied. One section with a control: Text `,"` CR LF and a sign of two halves; text that is no UTF-16, and so binary; a negative Short; bytes
abbrev stream : List ℕ
stream =
    dump "2A" ++ replicate 9 0x00
    ++ dump "05 C0 01 FF"  -- the object: a flag, and one byte of id C0
    ++ dump "FE 98 00"
    ++ dump "FE 64 00  60 FE FF  DC 0C 2C 00 22 00 0D 00 0A 00 3D D8 00 DE  DC 02 00 D8  DF 02 00 FF  FD"

abbrev sheet : List ℕ
sheet =
    text "control,type,property,word,value" ++ crlf
    ++ (text ",,GroupTable,notdefault,-" ++ crlf
    ++ (text ",,80C0,binary,FF" ++ crlf
    ++ (text "1,0064,Left,short,-2" ++ crlf
    ++ (text "1,0064,Name,text,\",\"\"" ++ (crlf ++ (dump "F0 9F 98 80" ++ (text "\"" ++ (crlf
    ++ (text "1,0064,0014,binary,00D8" ++ (crlf
    ++ (text "1,0064,009E,binary,00FF" ++ crlf)))))))))))

pub written : (csv_exit table stream (replicate 16 old) (replicate 36 old) (replicate 181 0xEE)).answer ≡ answer 0 181 0 0
unfolding csv_open
written = refl

pub written-bytes : (csv_exit table stream (replicate 16 old) (replicate 36 old) (replicate 181 0xEE)).out ≡ sheet
unfolding csv_open
written-bytes = refl

-- the Blob's refusals come first, whatever the buffer
pub six-first : (csv_exit table stream (replicate 15 old) (replicate 36 old) []).answer ≡ answer 6 2 6 2
unfolding csv_open
six-first = refl

-- ---- values, by the words of a row
pub record Values : Type 0 where
  pub yes : value_text 0 1 0 1 (0x01 ∷ []) ≡ text "yes"
  pub no : value_text 0 0 0 0 [] ≡ text "no"
  pub long : value_text 3 0xFFFFFFFF 0 4 [] ≡ text "-1"
  pub double : value_text 4 0x00000000 0xBFF00000 8 [] ≡ text "BFF0000000000000"
  pub guid : value_text 5 0 0 16 (dump "33 22 11 00 55 44 77 66 88 99 AA BB CC DD EE FF") ≡ text "{00112233-4455-6677-8899-AABBCCDDEEFF}"
  pub no_text : value_text 6 0 0 0 [] ≡ []
  pub no_bytes : value_text 7 0 0 0 [] ≡ []

pub values : Values
unfolding csv_open
values = record { yes = refl; no = refl; long = refl; double = refl; guid = refl; no_text = refl; no_bytes = refl }

-- ---- which fields are quoted
pub record Quoting : Type 0 where
  pub comma : field_text (text "a,b") ≡ text "\"a,b\""
  pub quote : field_text (text "\"") ≡ text "\"\"\"\""
  pub return : field_text (0x0D ∷ []) ≡ text "\"" ++ (0x0D ∷ text "\"")
  pub line : field_text (text "a\nb") ≡ text "\"a\nb\""
  pub others : field_text (dump "00 09 20 21 23 2B 2D 7F 80 FF") ≡ dump "00 09 20 21 23 2B 2D 7F 80 FF"
  pub nothing : field_text [] ≡ []

pub quoting : Quoting
unfolding csv_open
quoting = record { comma = refl; quote = refl; return = refl; line = refl; others = refl; nothing = refl }

-- ---- read
pub record Readings : Type 0 where
  -- CR LF in quotes, and none at the end
  pub line_in_quotes : fields_of (text "a,b,c,d,\"e" ++ crlf ++ text "f\"") ≡ some (text "a" ∷ text "b" ∷ text "c" ∷ text "d" ∷ (text "e" ++ crlf ++ text "f") ∷ [])
  -- quotes with nothing in them, and fields with nothing
  pub all-empty : fields_of (text "\"\",,,,") ≡ some ([] ∷ [] ∷ [] ∷ [] ∷ [] ∷ [])
  -- a quote alone in a field
  pub one-quote : fields_of (text "\"\"\"\",,,,") ≡ some (text "\"" ∷ [] ∷ [] ∷ [] ∷ [] ∷ [])
  -- every byte but the four is data: NUL, blanks, tabs and bytes above 7F
  pub any_data : fields_of (dump "00 2C FF 2C 20 2C 09 2C EF BB BF") ≡ some (dump "00" ∷ dump "FF" ∷ dump "20" ∷ dump "09" ∷ dump "EF BB BF" ∷ [])

pub readings : Readings
unfolding csv_open
readings = record { line_in_quotes = refl; all-empty = refl; one-quote = refl; any_data = refl }

pub record Refusals : Type 0 where
  pub line-last : fields_of (text "a,b,c,d,e\n") ≡ none
  pub return_last : fields_of (text "a,b,c,d,e" ++ (0x0D ∷ [])) ≡ none
  pub lone_quote : fields_of (text "a,b,c,d,\"") ≡ none
  pub data_after_quotes : fields_of (text "\"a\"b,c,d,e,f") ≡ none
  pub quote_in_data : fields_of (text "a\"b,c,d,e,f") ≡ none
  pub return_twice : fields_of (text "a,b,c,d,e" ++ (0x0D ∷ crlf)) ≡ none
  pub four-with-line : fields_of (text "a,b,c,d" ++ crlf) ≡ none
  pub short-second : fields_of (text "a,b,c,d,e" ++ crlf ++ text "f") ≡ none

pub refusals : Refusals
unfolding csv_open
refusals = record {
  line-last = refl;
  return_last = refl;
  lone_quote = refl;
  data_after_quotes = refl;
  quote_in_data = refl;
  return_twice = refl;
  four-with-line = refl;
  short-second = refl;
}

-- room for nothing is enough for five empty fields' bytes; an odd word is no row
pub empty-fields : fields_exit (text ",,,,") (replicate 11 old) [] ≡ record { answer = answer 0 0 5 0; rows = replicate 10 0 ++ (old ∷ []); out = [] }
unfolding csv_open
empty-fields = refl
