-- The listing of a TypeInfo stream: the bytes that `infolist` prints.
use Rattle.std.specs.Prelude.{ℕ, ◌+◌, ◌*◌, cond, List, [], ◌++◌, ltb, eqb, length}
use Rattle.rules.specs.Answer.{refusal, too_long_lem}
use Rattle.rules.specs.TypeInfo.{type_info_answer, type_info_rows}
use Rattle.rules.specs.Room.{type_info_room_lem}
use Rattle.rules.specs.Listing.{answer_line, lines_from}
use Rattle.listing.specs.InfoLine.{info_line}
use Rattle.listing.specs.Bound.{longest_answer}

-- the answer, and on 0 a line for each row; `rowRoom` is how many rows there is room for
unfoldable pub info_printed : List ℕ → ℕ → List ℕ
info_printed s rowRoom =
    answer_line (type_info_answer s rowRoom)
    ++ cond (eqb (type_info_answer s rowRoom).number 0) (lines_from (info_line s) 0 (type_info_rows s)) []

-- the longest stream that is listed, with room for every row that it can have
abbrev pub longest_info : ℕ
longest_info = 4194304

unfoldable pub info_listing : List ℕ → List ℕ
info_listing s = cond (ltb longest_info (length s)) (answer_line (refusal too_long_lem)) (info_printed s (type_info_room_lem longest_info))

-- the longest listing of a stream: an entry has eight bytes and its name, and its line no more than eight times that
abbrev pub info_most : ℕ → ℕ
info_most size = longest_answer + 8 * size
