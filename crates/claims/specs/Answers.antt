-- Document 01's table of answer numbers: the number and counts, and when they are given. "Each is given exactly then.": Demand1 says that what is given is what
-- stands here. A line's premises say that no answer before it in the order is due.
use Rattle.std.specs.Prelude.{ℕ, ◌-◌, ◌/◌, ◌≤◌, ◌<◌, ◌≡◌, true, false, List, length}
use Rattle.std.proofs.Math.Option.{none, some}
use Rattle.rules.specs.Bytes.{u32}
use Rattle.rules.specs.Answer.{answer, refusal}
use Rattle.rules.specs.Texts.{label}
use Rattle.rules.specs.NameTables.{Table as NameTable}
use Rattle.rules.specs.Names.{name_in_lem}
use Rattle.rules.specs.Rows.{control_width, property_width, type_info_width, room}
use Rattle.rules.specs.TypeInfo.{type_info_of}
use Rattle.rules.specs.CodeTable.{well_formed_lem}
use Rattle.rules.specs.Access2000.{stream_of}
use Rattle.rules.specs.Reading.{Reading, properties}
use Rattle.rules.specs.Blob.{is2000, reading_of, counted}
use Rattle.rules.specs.declared.Answer.{Answer}

-- ---- a Blob
-- 5 and 8 aren't due
pub record Judged (table stream : List ℕ) : Type 0 where
  pub not_long : length stream ≤ 16777216
  pub formed : well_formed_lem table ≡ true

-- (`properties'` is the lent slice, `properties r` are a reading's.) In 6, 7 and 0 the counts are those of one reading, whatever room is lent; that it is the
-- right one, and when there is none, is said by the stream's bytes in Demand2, RowChecks and LaterTree.
pub data BlobAnswer (table stream controls properties' : List ℕ) : Answer → Type 0 where
  -- stream over 16,777,216 bytes
  five : 16777216 < length stream → BlobAnswer table stream controls properties' (refusal 5)
  -- code table not well formed
  eight : length stream ≤ 16777216 → well_formed_lem table ≡ false → BlobAnswer table stream controls properties' (refusal 8)
  -- Access 2000 stream fits no reading
  four : Judged table stream → is2000 table stream ≡ true → stream_of stream ≡ none → BlobAnswer table stream controls properties' (refusal 4)
  -- more control rows needed than lent: all three counts, as needed
  six : Judged table stream → {r : Reading} → reading_of table stream ≡ some r
      → room control_width controls < length r.controls
      → BlobAnswer table stream controls properties' (counted 6 r)
  -- more property rows needed than lent: all three counts, as needed
  seven : Judged table stream → {r : Reading} → reading_of table stream ≡ some r
      → length r.controls ≤ room control_width controls
      → room property_width properties' < length (properties r)
      → BlobAnswer table stream controls properties' (counted 7 r)
  -- read: controls, property rows, object's own rows
  zero : Judged table stream → {r : Reading} → reading_of table stream ≡ some r
      → length r.controls ≤ room control_width controls
      → length (properties r) ≤ room property_width properties'
      → BlobAnswer table stream controls properties' (counted 0 r)

-- ---- TypeInfo
-- 5, 1, 2 and 3 aren't due
pub record Entered (stream : List ℕ) : Type 0 where
  pub not_long : length stream ≤ 16777216
  pub whole : 32 ≤ length stream
  pub magic : u32 stream 0 ≡ 0xACCDEAF7
  pub count : u32 stream 12 ≤ (length stream - 32) / 8

pub data TypeInfoAnswer (stream rows : List ℕ) : Answer → Type 0 where
  -- stream over 16,777,216 bytes
  five : 16777216 < length stream → TypeInfoAnswer stream rows (refusal 5)
  -- TypeInfo under 32 bytes
  one : length stream < 32 → TypeInfoAnswer stream rows (refusal 1)
  -- its first four bytes aren't F7 EA CD AC (one number, the low byte first)
  two : length stream ≤ 16777216 → 32 ≤ length stream → ¬ (u32 stream 0 ≡ 0xACCDEAF7) → TypeInfoAnswer stream rows (refusal 2)
  -- count at 12 (u32) above (length − 32) / 8, rounded down
  three : length stream ≤ 16777216 → 32 ≤ length stream → u32 stream 0 ≡ 0xACCDEAF7 → (length stream - 32) / 8 < u32 stream 12 → TypeInfoAnswer stream rows (refusal 3)
  -- more rows needed than lent
  six : Entered stream → room type_info_width rows < length (type_info_of stream) → TypeInfoAnswer stream rows (answer 6 (length (type_info_of stream)) 0 0)
  -- read
  zero : Entered stream → length (type_info_of stream) ≤ room type_info_width rows → TypeInfoAnswer stream rows (answer 0 (length (type_info_of stream)) 0 0)

-- ---- GUID text, labels and names. (Which bytes are written says the definition, `guid_exit`, `label_exit` or `name_exit`: Calls)
pub data GuidAnswer (guid out : List ℕ) : Answer → Type 0 where
  -- GUID value isn't 16 bytes
  ten : ¬ (length guid ≡ 16) → GuidAnswer guid out (refusal 10)
  -- text buffer too short
  nine : length guid ≡ 16 → length out < 38 → GuidAnswer guid out (refusal 9)
  -- the length written
  zero : length guid ≡ 16 → 38 ≤ length out → GuidAnswer guid out (answer 0 38 0 0)

pub data TextAnswer (text out : List ℕ) : Answer → Type 0 where
  -- text buffer too short
  nine : length out < length text → TextAnswer text out (refusal 9)
  -- the length written
  zero : length text ≤ length out → TextAnswer text out (answer 0 (length text) 0 0)

abbrev pub LabelAnswer : ℕ → List ℕ → Answer → Type 0
LabelAnswer n out = TextAnswer (label n) out

-- the name that a table of names has for an id. Where it has none the text is empty: 0 with length 0, whatever the buffer
abbrev pub NameAnswer : NameTable → ℕ → List ℕ → Answer → Type 0
NameAnswer table id out = TextAnswer (name_in_lem table id) out
