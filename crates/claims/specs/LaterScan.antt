-- The later layout's scan, by the words that a caller sees. "Otherwise the bytes from the end of the last good object property (14 if none) are scanned
-- for 14 00 0A 00 00 00, going on behind a match's six bytes; each match starts a group that reaches to the next match or the end, reported with
-- type 0 unless it has no property."
use Rattle.std.specs.Prelude.{ℕ, zero, suc, ◌+◌, ◌≤◌, ◌<◌, ◌≡◌, List, [], ◌∷◌, ◌⊎◌, length}
use Rattle.rules.specs.Bytes.{u16, u32, part}
use Rattle.rules.specs.Value.{entry_value_lem}
use Rattle.rules.specs.Rows.{property_width, row_at}
use Rattle.rules.specs.Reading.{property_row}
use Rattle.rules.specs.Blob.{Exit}
use Rattle.claims.specs.LaterGrammar.{Ending}
use Rattle.claims.specs.RowChecks.{control_type, name_mark, name_start, name_length, first_row, property_count, shown_id, value_mark, value_start, value_length}

-- ---- a property at q: "u16 id, u32 type, 4 bytes passed over, u32 length, value, u32 trailer". (Bytes past the stream's end are read as 0; a property
-- that has such bytes isn't inside.)
abbrev pub size_at : List ℕ → ℕ → ℕ
size_at stream q = u32 stream (q + 10)

abbrev pub trailer_at : List ℕ → ℕ → ℕ
trailer_at stream q = u32 stream (q + 14 + size_at stream q)

abbrev pub behind : List ℕ → ℕ → ℕ
behind stream q = q + 14 + size_at stream q + 4

-- the six words that show it
abbrev pub words_at : List ℕ → ℕ → List ℕ
words_at stream q =
    let size = size_at stream q in
    property_row (record { id = u16 stream q; value = entry_value_lem (u32 stream (q + 2)) (part stream (q + 14) size); start = q + 14; size = size })

-- ---- a group. `Group stream seen Inside j n q`: n rows from row j on show the properties from q on, each with its trailer inside the group (`Inside` says which
-- ends are), up to a trailer that ends the group or a property that isn't inside. "one that isn't is unread and ends its group"; "Trailer 253, 254 or 255 ends a group"
pub data Group (stream : List ℕ) (seen : Exit) (Inside : ℕ → Type 0) : ℕ → ℕ → ℕ → Type 0 where
  unread : {j q : ℕ} → ¬ Inside (behind stream q) → Group stream seen Inside j 0 q
  ended : {j q : ℕ} → row_at property_width j seen.properties ≡ words_at stream q → Inside (behind stream q) → Ending (trailer_at stream q) → Group stream seen Inside j 1 q
  onward : {j q n : ℕ} → row_at property_width j seen.properties ≡ words_at stream q → Inside (behind stream q) → ¬ Ending (trailer_at stream q)
      → Group stream seen Inside (j + 1) n (behind stream q) → Group stream seen Inside j (n + 1) q

-- ---- matches
-- the six bytes stand at p. No two such places overlap, so going on behind one leaves none out
abbrev pub Match : List ℕ → ℕ → Type 0
Match stream p = part stream p 6 ≡ 0x14 ∷ 0x00 ∷ 0x0A ∷ 0x00 ∷ 0x00 ∷ 0x00 ∷ []

-- the place e is within the group of the match at p, which reaches to the next match or the end
pub record Within (stream : List ℕ) (p e : ℕ) : Type 0 where
  pub to_end : e ≤ length stream
  pub to-next : (q : ℕ) → p < q → Match stream q → e ≤ q

-- where the scan starts: behind the trailer of the object's last property, or at 14
abbrev pub behind_rows : Exit → ℕ → ℕ
behind_rows seen zero = 14
behind_rows seen (suc n) = value_start seen n + value_length seen n + 4

abbrev pub scan_start : Exit → ℕ
scan_start seen = behind_rows seen seen.answer.third

-- the match at p starts a group that has a property
pub record Starts (stream : List ℕ) (seen : Exit) (p : ℕ) : Type 0 where
  pub from_start : scan_start seen ≤ p
  pub match : Match stream p
  pub a_property : Within stream p (behind stream p)

-- ---- control i is the group of the match at p
pub record ControlAt (stream : List ℕ) (seen : Exit) (i p : ℕ) : Type 0 where
  pub its-type : control_type seen i ≡ 0
  pub its-rows : Group stream seen (Within stream p) (first_row seen i) (property_count seen i) p
  -- its first property is the match: id 0x0014, and Text, as the type is 0x0A; that is its name, so no scanned control is numbered
  pub has-rows : 0 < property_count seen i
  pub first-id : shown_id seen (first_row seen i) ≡ 0x0014
  pub first-text : ((value_mark seen (first_row seen i) ≡ 6) × (name_mark seen i ≡ 0)) ⊎ ((value_mark seen (first_row seen i) ≡ 8) × (name_mark seen i ≡ 2))
  pub name-start : name_start seen i ≡ p + 14
  pub name-length : name_length seen i ≡ size_at stream p

-- what a caller sees on answer 0: with RowChecks and `Nesting.lists-later`, every word of every row. (The counts of 6 and 7 are those of the same reading: Answers)
pub record Scanned (stream : List ℕ) (seen : Exit) : Type 0 where
  -- "The object's group starts at 14." "Object rows stay in both."
  pub own : Group stream seen (λ e. e ≤ length stream) 0 seen.answer.third 14
  -- the controls are the matches that start a group with a property, all of them. (They stand in the order of their places, and no two are one match:
  -- `Checks.value-order`)
  pub each-control : (i : ℕ) → i < seen.answer.first → (p : ℕ) × Starts stream seen p × ControlAt stream seen i p
  pub each-match : (p : ℕ) → Starts stream seen p → (i : ℕ) × (i < seen.answer.first) × ControlAt stream seen i p
