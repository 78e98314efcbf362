-- Worked examples of wish 7, by computation.
use Prim.Native.Nat.{ℕ}
use mathlib.Core.Path.{◌≡◌, refl}
use mathlib.Core.List.{List, [], ◌∷◌, ◌++◌}
use mathlib.Core.Option.{Option, none, some}
use lib.ListN.{replicate}
use Rattle.rules.specs.Lists.{text}
use Rattle.rules.specs.Answer.{answer, refusal}
use Rattle.rules.specs.Utf8.{utf8}
use Rattle.rules.specs.Csv.{crlf, field_text, value_text, CsvExit, csv_exit, Fields, fields_of, fields_exit}
use Rattle.rules.specs.Blob.{exit}
use Rattle.rules.specs.Examples.{old, table, blob}
use Rattle.rules.proofs.OpenCsv.{csv_open}

-- ---- K1's Blob, written
abbrev k1-text : List ℕ
k1-text =
    text "control,type,property,word,value" ++ crlf
    ++ (text ",,8031,short,5" ++ crlf)
    ++ (text "1,0064,Left,short,-1" ++ crlf)
    ++ (text "1,0064,Name,text,A" ++ crlf)

abbrev wrote : ℕ → CsvExit
wrote room = csv_exit table blob (replicate 17 old) (replicate 20 old) (replicate room 0xEE)

-- 92 bytes; the rows are read_blob's
pub k1-written : wrote 95 ≡ record {
  answer = answer 0 92 0 0;
  controls = (exit table blob (replicate 17 old) (replicate 20 old)).controls;
  properties = (exit table blob (replicate 17 old) (replicate 20 old)).properties;
  out = k1-text ++ replicate 3 0xEE;
}
unfolding csv_open
k1-written = refl

-- they may fill the buffer
pub k1_fills : (wrote 92).out ≡ k1-text
unfolding csv_open
k1_fills = refl

-- a byte too little: 13, and nothing is written
pub k1-no-room : wrote 91 ≡ record { answer = refusal 13; controls = replicate 17 old; properties = replicate 20 old; out = replicate 91 0xEE }
unfolding csv_open
k1-no-room = refl

-- no room for the rows either: the Blob's 7 comes first
pub k1-no-rows : (csv_exit table blob (replicate 17 old) (replicate 17 old) []).answer ≡ answer 7 2 3 1
unfolding csv_open
k1-no-rows = refl

-- ---- fields
pub quoted_where : field_text (text "a\"b, c") ≡ text "\"a\"\"b, c\""
unfolding csv_open
quoted_where = refl

pub not_quoted : field_text (text "{a;b} é") ≡ text "{a;b} é"
unfolding csv_open
not_quoted = refl

-- ---- values
-- é, €, and a character of two halves
pub as_utf8 : utf8 (0xE9 ∷ 0x00 ∷ 0xAC ∷ 0x20 ∷ 0x3D ∷ 0xD8 ∷ 0x00 ∷ 0xDE ∷ 0x41 ∷ 0x00 ∷ []) ≡ 0xC3 ∷ 0xA9 ∷ 0xE2 ∷ 0x82 ∷ 0xAC ∷ 0xF0 ∷ 0x9F ∷ 0x98 ∷ 0x80 ∷ 0x41 ∷ []
unfolding csv_open
as_utf8 = refl

pub ends_of_lengths : utf8 (0x7F ∷ 0x00 ∷ 0x80 ∷ 0x00 ∷ 0xFF ∷ 0x07 ∷ 0x00 ∷ 0x08 ∷ 0xFF ∷ 0xFF ∷ 0x00 ∷ 0xD8 ∷ 0x00 ∷ 0xDC ∷ 0xFF ∷ 0xDB ∷ 0xFF ∷ 0xDF ∷ [])
    ≡ 0x7F ∷ 0xC2 ∷ 0x80 ∷ 0xDF ∷ 0xBF ∷ 0xE0 ∷ 0xA0 ∷ 0x80 ∷ 0xEF ∷ 0xBF ∷ 0xBF ∷ 0xF0 ∷ 0x90 ∷ 0x80 ∷ 0x80 ∷ 0xF4 ∷ 0x8F ∷ 0xBF ∷ 0xBF ∷ []
unfolding csv_open
ends_of_lengths = refl

pub as_hex : value_text 8 0 0 3 (0x00 ∷ 0xD8 ∷ 0x0F ∷ []) ≡ text "00D80F"
unfolding csv_open
as_hex = refl

-- ---- read
abbrev abcde : Option Fields
abcde = some (text "a" ∷ text "b" ∷ [] ∷ text "d,\"" ∷ text "e" ∷ [])

pub read_plain : fields_of (text "a,b,,\"d,\"\"\",e" ++ crlf) ≡ abcde
unfolding csv_open
read_plain = refl

pub read-no-end : fields_of (text "a,\"b\",\"\",\"d,\"\"\",e") ≡ abcde
unfolding csv_open
read-no-end = refl

-- a record of empty fields, and one with CR LF in quotes
pub read-two : fields_exit (text ",,,," ++ crlf ++ (text "1,22,\"" ++ crlf ++ text "\",3,") ++ crlf) (replicate 21 old) (replicate 7 0xEE) ≡ record {
  answer = answer 0 6 10 0;
  rows = 0 ∷ 0 ∷ 0 ∷ 0 ∷ 0 ∷ 0 ∷ 0 ∷ 0 ∷ 0 ∷ 0 ∷ 0 ∷ 1 ∷ 1 ∷ 2 ∷ 3 ∷ 2 ∷ 5 ∷ 1 ∷ 6 ∷ 0 ∷ old ∷ [];
  out = 0x31 ∷ 0x32 ∷ 0x32 ∷ 0x0D ∷ 0x0A ∷ 0x33 ∷ 0xEE ∷ [];
}
unfolding csv_open
read-two = refl

-- too few rows, too few bytes: 13, but 14 comes first
pub read-no-rows : fields_exit (text "a,b,c,d,e") (replicate 9 old) (replicate 5 0xEE) ≡ record { answer = refusal 13; rows = replicate 9 old; out = replicate 5 0xEE }
unfolding csv_open
read-no-rows = refl

pub read-no-bytes : fields_exit (text "a,b,c,d,e") (replicate 10 old) (replicate 4 0xEE) ≡ record { answer = refusal 13; rows = replicate 10 old; out = replicate 4 0xEE }
unfolding csv_open
read-no-bytes = refl

pub read_bad_first : (fields_exit (text "a,b,c,d") [] []).answer ≡ refusal 14
unfolding csv_open
read_bad_first = refl

-- what isn't of the grammar
abbrev Bad : List ℕ → Type 0
Bad s = fields_of s ≡ none

pub record Refusals : Type 0 where
  pub nothing : Bad []
  pub end-alone : Bad crlf
  pub four : Bad (text "a,b,c,d")
  pub six : Bad (text "a,b,c,d,e,f")
  pub four-then : Bad (text "a,b,c,d" ++ crlf ++ text "a,b,c,d,e")
  pub empty-line : Bad (text "a,b,c,d,e" ++ crlf ++ crlf)
  pub lf-alone : Bad (text "a,b,c,d,e\nf,g,h,i,j")
  pub cr-alone : Bad (text "a,b,c,d,e" ++ (0x0D ∷ []))
  pub cr-inside : Bad (text "a,b,c" ++ (0x0D ∷ text "x,d,e"))
  pub quote-inside : Bad (text "a,b,c,d,e\"")
  pub after-quote : Bad (text "a,b,c,d,\"e\"f")
  pub open_quote : Bad (text "a,b,c,d,\"e")
  pub blank-before : Bad (text "a,b,c,d, \"e\"")

pub refusals : Refusals
unfolding csv_open
refusals = record {
  nothing = refl;
  end-alone = refl;
  four = refl;
  six = refl;
  four-then = refl;
  empty-line = refl;
  lf-alone = refl;
  cr-alone = refl;
  cr-inside = refl;
  quote-inside = refl;
  after-quote = refl;
  open_quote = refl;
  blank-before = refl;
}
