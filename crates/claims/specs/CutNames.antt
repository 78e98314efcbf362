-- Wish 6 of document 02. "A copy that lost its tail gives a shortened name that looks whole. .. a fifth word in the TypeInfo row, 1 if the name used
-- ended at the stream's end, 0 if at a NUL."
use Rattle.std.specs.Prelude.{ℕ, ◌+◌, ◌<◌, ◌≡◌, List, ◌↔◌, ◌⊎◌, length, get_or}
use Rattle.rules.specs.Bytes.{byte}
use Rattle.rules.specs.Rows.{type_info_width, row_at}
use Rattle.rules.specs.TypeInfo.{TypeInfoExit, type_info_exit}

-- word k of row n
abbrev pub info_word : ℕ → TypeInfoExit → ℕ → ℕ
info_word k seen n = get_or (row_at type_info_width n seen.rows) k 0

-- the place right after the name of row n: its start and its length together
abbrev pub name_end : TypeInfoExit → ℕ → ℕ
name_end seen n = info_word 2 seen n + info_word 3 seen n

abbrev pub cut_word : TypeInfoExit → ℕ → ℕ
cut_word seen n = info_word 4 seen n

-- what row n says of its name. (0 doesn't say that the stream is whole: it may have lost its tail right after a NUL, within the 36 bytes of an ActiveX
-- control, within the next entry's first eight bytes, or in an entry that isn't reported)
pub record CutRow (stream : List ℕ) (seen : TypeInfoExit) (n : ℕ) : Type 0 where
  pub either : (cut_word seen n ≡ 0) ⊎ (cut_word seen n ≡ 1)
  -- "1 if the name used ended at the stream's end"
  pub at-end : (cut_word seen n ≡ 1) ↔ (name_end seen n ≡ length stream)
  -- "0 if at a NUL"
  pub at_nul : (cut_word seen n ≡ 0) ↔ ((name_end seen n < length stream) × (byte stream (name_end seen n) ≡ 0))
  -- the name has no NUL of its own
  pub no_nul : (i : ℕ) → i < info_word 3 seen n → ¬ (byte stream (info_word 2 seen n + i) ≡ 0)
  -- nothing can stand after a name that was cut: at most one row has 1, and it is the last
  pub last : cut_word seen n ≡ 1 → n + 1 ≡ seen.answer.first

-- of every row that is told
abbrev pub CutNames : List ℕ → TypeInfoExit → Type 0
CutNames stream seen = seen.answer.number ≡ 0 → (n : ℕ) → n < seen.answer.first → CutRow stream seen n

pub record Wish6 : Type 0 where
  pub cut-names : (stream rows : List ℕ) → CutNames stream (type_info_exit stream rows)
