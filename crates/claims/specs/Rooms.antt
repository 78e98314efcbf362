-- Wish 14 (of document 02, the customer's later wishes). How much room is enough. "The converter's designer wants to fix the buffers once." C is the first
-- count, P the second; `room_for` and the like (rules/specs/Room) compute room from a length.
use Rattle.std.specs.Prelude.{ℕ, zero, suc, ◌+◌, ◌*◌, ◌≤◌, ◌<◌, ◌≡◌, true, false, List, [], ◌∷◌, ◌++◌, ◌⊎◌, length, replicate}
use Rattle.std.proofs.Math.Option.{none, some}
use Rattle.rules.specs.Answer.{answer, longest}
use Rattle.rules.specs.TypeInfo.{TypeInfoExit, type_info_exit}
use Rattle.rules.specs.CodeTable.{layout, well_formed_lem}
use Rattle.rules.specs.Rows.{control_width, property_width, type_info_width, room}
use Rattle.rules.specs.Tree.{Entries}
use Rattle.rules.specs.Later.{Prop, tree_of}
use Rattle.rules.specs.Blob.{Exit, is2000, exit}
use Rattle.rules.specs.Room.{room2000, room_later_lem, room_for, type_info_room_lem}
use Rattle.rules.specs.declared.Answer.{Answer}
use Rattle.rules.specs.declared.Room.{Room}

-- ---- "For every stream with answer 0, C controls and P property rows"
-- "if Access 2000, 3C + P + 11 is at most the length"
abbrev pub Old : ℕ → Answer → Type 0
Old n a = 3 * a.first + a.second + 11 ≤ n

-- "if a later tree, 6C + 18P + 14"
abbrev pub Tree : ℕ → Answer → Type 0
Tree n a = 6 * a.first + 18 * a.second + 14 ≤ n

-- "if a scan after at least 14 bytes, 18P + 14, with C at most P"
abbrev pub Scan : ℕ → Answer → Type 0
Scan n a = (18 * a.second + 14 ≤ n) × (a.first ≤ a.second)

-- an Access 2000 stream with no controls, or with more than 256, has two bytes more at least: none such meets the bound exactly
abbrev pub Spare : ℕ → Answer → Type 0
Spare n a = (a.first ≡ 0) ⊎ (256 < a.first) → 3 * a.first + a.second + 13 ≤ n

-- "So room computed from the length alone never brings 6 or 7."
abbrev pub Never : Answer → Type 0
Never a = (¬ (a.number ≡ 6)) × (¬ (a.number ≡ 7))

-- so many rows are lent, or more (`rows` is a number of rows for controls, and one for properties)
abbrev pub Lent : List ℕ → List ℕ → Room → Type 0
Lent controls properties rows = (rows.controls ≤ room control_width controls) × (rows.properties ≤ room property_width properties)

-- ---- what is said of a code table, a stream, two lent slices, and all that a caller sees
module _ (table stream controls properties : List ℕ) (seen : Exit) where
  pub record Bounds : Type 0 where
    pub old : is2000 table stream ≡ true → seen.answer.number ≡ 0 → Old (length stream) seen.answer
    pub old_spare : is2000 table stream ≡ true → seen.answer.number ≡ 0 → Spare (length stream) seen.answer
    pub later-tree : is2000 table stream ≡ false → (es : Entries Prop) → tree_of stream ≡ some es → seen.answer.number ≡ 0 → Tree (length stream) seen.answer
    pub scan : is2000 table stream ≡ false → 14 ≤ length stream → tree_of stream ≡ none → seen.answer.number ≡ 0 → Scan (length stream) seen.answer
    -- with fewer bytes there is nothing. (That `tree_of` gives a tree exactly when the bytes spell one says `LaterTree.is-tree`)
    pub short : is2000 table stream ≡ false → length stream < 14 → seen.answer.number ≡ 0 → (seen.answer.first ≡ 0) × (seen.answer.second ≡ 0)
    -- C is at most P in a later tree too
    pub later-fewer : is2000 table stream ≡ false → seen.answer.number ≡ 0 → seen.answer.first ≤ seen.answer.second

  -- room for n bytes serves every stream of at most so many: of either layout, or of the one that the caller knows it to have
  pub record Enough : Type 0 where
    pub any : (n : ℕ) → length stream ≤ n → Lent controls properties (room_for n) → Never seen.answer
    pub old : (n : ℕ) → length stream ≤ n → is2000 table stream ≡ true → Lent controls properties (room2000 n) → Never seen.answer
    pub later : (n : ℕ) → length stream ≤ n → is2000 table stream ≡ false → Lent controls properties (room_later_lem n) → Never seen.answer

-- the same of TypeInfo, which has no 7
abbrev pub EnoughInfos : List ℕ → List ℕ → TypeInfoExit → Type 0
EnoughInfos stream rows seen = (n : ℕ) → length stream ≤ n → type_info_room_lem n ≤ room type_info_width rows → ¬ (seen.answer.number ≡ 6)

-- ---- "Give for the Access 2000 bound a stream that meets it exactly for each C from 1 to 100."
-- C entries of type 0x98, each but the first the only one in the list of the one before, the last without a list
abbrev pub links : ℕ → List ℕ
links zero = 0xFD ∷ []
links (suc n) = 0xFE ∷ 0x98 ∷ 0x00 ∷ links n

-- behind ten bytes, the first of which is the layout byte, and P flags of the object
abbrev pub tight : ℕ → ℕ → ℕ → List ℕ
tight layout C P = (layout ∷ replicate 9 0) ++ (replicate P 0 ++ links C)

-- with room for C controls and P properties its answer is 0 with as many, all properties the object's; it has as many bytes as the bound says
pub record Tight (table : List ℕ) (C P : ℕ) : Type 0 where
  pub read : (controls properties : List ℕ) → C ≤ room control_width controls → P ≤ room property_width properties
      → (exit table (tight (layout table) C P) controls properties).answer ≡ answer 0 C P P
  pub meets : 3 * C + P + 11 ≡ length (tight (layout table) C P)

-- ---- the later bounds are met too: by one control with a property, beside one of the object's
-- a property of 18 bytes: id, type, 4 bytes passed over, length 0, trailer
abbrev pub empty : ℕ → ℕ → ℕ → List ℕ
empty id type trailer = id ∷ 0 ∷ type ∷ 0 ∷ 0 ∷ 0 ∷ 0 ∷ 0 ∷ 0 ∷ 0 ∷ 0 ∷ 0 ∷ 0 ∷ 0 ∷ trailer ∷ 0 ∷ 0 ∷ 0 ∷ []

-- the object's group says one child, which is a node of type 0x98
abbrev pub tight_tree : List ℕ
tight_tree = replicate 14 0 ++ (empty 1 1 254 ++ (0x98 ∷ 0 ∷ 0 ∷ 0 ∷ 0 ∷ 0 ∷ empty 1 1 253))

-- the object's group says no child, and a match follows
abbrev pub tight_scan : List ℕ
tight_scan = replicate 14 0 ++ (empty 1 1 253 ++ empty 0x14 0x0A 253)

-- a code table without header codes and scopes
abbrev pub bare : List ℕ
bare = 0x2A ∷ 0 ∷ 0 ∷ 0 ∷ []

pub record LaterTight : Type 0 where
  pub tree : (exit bare tight_tree (replicate 8 0) (replicate 12 0)).answer ≡ answer 0 1 2 1
  pub tree-meets : 6 * 1 + 18 * 2 + 14 ≡ length tight_tree
  pub scan : (exit bare tight_scan (replicate 8 0) (replicate 12 0)).answer ≡ answer 0 1 2 1
  pub scan-meets : 18 * 2 + 14 ≡ length tight_scan

pub record Rooms : Type 0 where
  pub bounds : (table stream controls properties : List ℕ) → Bounds table stream controls properties (exit table stream controls properties)
  pub enough : (table stream controls properties : List ℕ) → Enough table stream controls properties (exit table stream controls properties)
  pub enough-infos : (stream rows : List ℕ) → EnoughInfos stream rows (type_info_exit stream rows)
  -- each C from 1 to 256, and any P up to the longest stream
  pub met : (table : List ℕ) → well_formed_lem table ≡ true → (C P : ℕ) → 1 ≤ C → C ≤ 256 → 3 * C + P + 11 ≤ longest → Tight table C P
  pub later-met : LaterTight
