-- Wish 2 of document 02: controls paired with TypeInfo. What is answered, which words change and to what, that pairing again changes nothing, and that
-- rows which were read are never refused.
use Rattle.std.specs.Prelude.{ℕ, ◌+◌, ◌*◌, ◌<◌, ◌≡◌, List, map, ◌↔◌, length, get_or}
use Rattle.rules.specs.Bytes.{u16}
use Rattle.rules.specs.Answer.{answer, refusal}
use Rattle.rules.specs.Texts.{label}
use Rattle.rules.specs.Rows.{control_width, type_info_width, room, row_at}
use Rattle.rules.specs.TypeInfo.{TypeInfoExit, type_info_exit}
use Rattle.rules.specs.Blob.{Exit, exit, exit2000, exit_later}
use Rattle.rules.specs.Pairing.{type_of, mark_of, start_of, size_of, cut_of, named_bytes, folded, PairExit, pair_exit}
use Rattle.rules.specs.declared.Answer.{Answer}
use Rattle.claims.specs.Demand1.{Refused}

-- ---- names
abbrev pub WhollyAscii : List ℕ → Type 0
WhollyAscii name = (i : ℕ) → i < length name → get_or name i 0 < 128

-- "Names match when both are wholly ASCII and equal after folding A to Z."
pub record Match (a b : List ℕ) : Type 0 where
  pub one_ascii : WhollyAscii a
  pub other_ascii : WhollyAscii b
  pub equal_folded : map folded a ≡ map folded b

-- UTF-16 text by its units, two bytes each; text of odd length has none
pub record Units (bytes units : List ℕ) : Type 0 where
  pub even : length bytes ≡ 2 * length units
  pub each : (i : ℕ) → i < length units → get_or units i 0 ≡ u16 bytes (2 * i)

-- the name by which a control row of the stream s takes part. "Mark 2 names are compared by their bytes; mark 0 names of odd length match none; numbered
-- names take part by their label"
pub data NameOf (s control : List ℕ) : List ℕ → Type 0 where
  text : {name : List ℕ} → mark_of control ≡ 0 → Units (named_bytes s control) name → NameOf s control name
  numbered : mark_of control ≡ 1 → NameOf s control (label (start_of control))
  loose : mark_of control ≡ 2 → NameOf s control (named_bytes s control)

-- a control row of the stream s and a TypeInfo row of the stream t have the same name. Wish 6: "Wish 2's pairing skips rows where it isn't 0."
pub record SameName (s t control info : List ℕ) : Type 0 where
  pub name : List ℕ
  pub its-name : NameOf s control name
  pub whole : cut_of info ≡ 0
  pub match : Match name (named_bytes t info)

-- ---- the answers, and when they are given
-- "where a number of rows exceeds those lent or, among the rows counted, a mark is above 2 or a row but a numbered one names bytes outside its stream".
-- (The start and the length are added as whole numbers; a TypeInfo row has no mark)
pub data BadRows (s controls : List ℕ) (n : ℕ) (t infos : List ℕ) (m : ℕ) : Type 0 where
  more-controls : room control_width controls < n → BadRows s controls n t infos m
  more-infos : room type_info_width infos < m → BadRows s controls n t infos m
  mark-above_2 : (k : ℕ) → k < n → 2 < mark_of (row_at control_width k controls) → BadRows s controls n t infos m
  control_outside : (k : ℕ) → k < n → ¬ (mark_of (row_at control_width k controls) ≡ 1)
      → length s < start_of (row_at control_width k controls) + size_of (row_at control_width k controls)
      → BadRows s controls n t infos m
  info_outside : (k : ℕ) → k < m
      → length t < start_of (row_at type_info_width k infos) + size_of (row_at type_info_width k infos)
      → BadRows s controls n t infos m

pub data PairAnswer (s controls : List ℕ) (n : ℕ) (t infos : List ℕ) (m : ℕ) : Answer → Type 0 where
  eleven : BadRows s controls n t infos m → PairAnswer s controls n t infos m (refusal 11)
  zero : ¬ BadRows s controls n t infos m → PairAnswer s controls n t infos m (answer 0 0 0 0)

-- ---- the rows at exit
-- the type that a control row gets
pub data Typed (s t control infos : List ℕ) (m : ℕ) : ℕ → Type 0 where
  -- "that of the first TypeInfo row with the same name"
  first_of_name : (j : ℕ) → j < m → SameName s t control (row_at type_info_width j infos)
      → ((i : ℕ) → i < j → ¬ SameName s t control (row_at type_info_width i infos))
      → Typed s t control infos m (type_of (row_at type_info_width j infos))
  -- "without one it stays"
  none_of_name : ((j : ℕ) → j < m → ¬ SameName s t control (row_at type_info_width j infos)) → Typed s t control infos m (type_of control)

pub record Paired (s controls : List ℕ) (n : ℕ) (t infos : List ℕ) (m : ℕ) (now : List ℕ) : Type 0 where
  -- the first word of each row counted
  pub types : (k : ℕ) → k < n → Typed s t (row_at control_width k controls) infos m (get_or now (k * control_width) 0)
  -- "All other words stay.": those of the rows counted, and all after them
  pub others : (i : ℕ) → ((k : ℕ) → k < n → ¬ (i ≡ k * control_width)) → get_or now i 0 ≡ get_or controls i 0
  pub as_long : length now ≡ length controls

-- ---- of what a caller sees
pub record Pairs (s controls : List ℕ) (n : ℕ) (t infos : List ℕ) (m : ℕ) (e : PairExit) : Type 0 where
  pub exactly : (a : Answer) → PairAnswer s controls n t infos m a ↔ (a ≡ e.answer)
  -- "tried before anything is written"
  pub controls_stay : Refused e.answer → e.controls ≡ controls
  pub paired : e.answer.number ≡ 0 → Paired s controls n t infos m e.controls

-- rows that two readers gave for the streams s and t, paired with the counts that they gave
abbrev pub pair_read_lem : List ℕ → List ℕ → Exit → TypeInfoExit → PairExit
pair_read_lem s t blob info = pair_exit s blob.controls blob.answer.first t info.rows info.answer.first

abbrev pub NeverRefused : List ℕ → List ℕ → Exit → TypeInfoExit → Type 0
NeverRefused s t blob info = blob.answer.number ≡ 0 → info.answer.number ≡ 0 → (pair_read_lem s t blob info).answer.number ≡ 0

pub record Wish2 : Type 0 where
  -- "sets each control's type to that of the first TypeInfo row with the same name; without one it stays. .. All other words stay. Refusals: 11 .."
  pub pairs : (s controls : List ℕ) (n : ℕ) (t infos : List ℕ) (m : ℕ) → Pairs s controls n t infos m (pair_exit s controls n t infos m)
  -- pairing twice changes nothing more
  pub again : (s controls : List ℕ) (n : ℕ) (t infos : List ℕ) (m : ℕ)
      → pair_exit s (pair_exit s controls n t infos m).controls n t infos m ≡ pair_exit s controls n t infos m
  -- "the control rows of a later Blob with its stream, and TypeInfo rows with theirs": rows that were read are never refused, by whichever reader
  pub as_read : (table s controls properties t rows : List ℕ) → NeverRefused s t (exit table s controls properties) (type_info_exit t rows)
  pub as_read-later : (layoutByte : ℕ) (s controls properties t rows : List ℕ) → NeverRefused s t (exit_later layoutByte s controls properties) (type_info_exit t rows)
  pub as_read_2000 : (table s controls properties t rows : List ℕ) → NeverRefused s t (exit2000 table s controls properties) (type_info_exit t rows)
