-- What the code answers for what the definitions say.
use Rattle.std.specs.Prelude.{ℕ, ◌+◌, ◌*◌, ◌-◌, ◌/◌, ◌%◌, ◌≤◌, ◌<◌, ◌^◌, min, cond, not, List, [], ◌∷◌, ltb, eqb, length, Result, Ok, Err}
use Rattle.rules.specs.Lists.{keep}
use Rattle.rules.specs.Bytes.{u32}
use Rattle.rules.specs.Answer.{answer, refusal, too_short_lem, other_magic, too_many_entries, too_long_lem, more_controls, longest}
use Rattle.rules.specs.Rows.{type_info_width}
use Rattle.rules.specs.TypeInfo as info
use Rattle.rules.specs.TypeInfo.{Info, infos_at, is_reported_info}
use Rattle.typeinfo.specs.declared.Named.{Named}
use Rattle.typeinfo.specs.declared.Entry.{Entry}
use Rattle.typeinfo.specs.declared.Refusal.{Refusal}
use Rattle.typeinfo.specs.declared.Refusal.TheVariants.{TooLong, TooShort, OtherMagic, TooManyEntries, TooFewRows}
use Rattle.rules.specs.declared.Answer.{Answer}

abbrev pub as_named : info.Named → Named
as_named n = record { start = n.start; size = n.size; next = n.next; cut = n.cut }

abbrev pub as_entry : Info → ℕ → Entry
as_entry i next = record { type_code = i.type; index = i.index; name = as_named i.name; next = next }

-- the place after an entry whose names end at `next`
unfoldable pub past_tail : ℕ → ℕ → ℕ → ℕ
past_tail len type next = cond (eqb (type % 256) 0x77) (min (next + 36) len) next

-- what a refusal answers
abbrev pub answer_to : Refusal → Answer
answer_to TooLong = refusal too_long_lem
answer_to TooShort = refusal too_short_lem
answer_to OtherMagic = refusal other_magic
answer_to TooManyEntries = refusal too_many_entries
answer_to (TooFewRows asked) = answer more_controls asked 0 0

-- so many rows written, or a refusal
abbrev pub answer_of : Result ℕ Refusal → Answer
answer_of (Ok found) = answer 0 found 0 0
answer_of (Err r) = answer_to r

-- what speaks against reading the entries, or their number
unfoldable pub header_of : List ℕ → Result ℕ Refusal
header_of s =
    cond (ltb longest (length s)) (Err TooLong)
    (cond (ltb (length s) 32) (Err TooShort)
    (cond (not (eqb (u32 s 0) 0xACCDEAF7)) (Err OtherMagic)
    (cond (ltb ((length s - 32) / 8) (u32 s 12)) (Err TooManyEntries)
    (Ok (u32 s 12)))))

-- whether so many rows fit the room
unfoldable pub fit_of_lem : ℕ → ℕ → Result (Unit {0}) Refusal
fit_of_lem rowRoom n = cond (ltb rowRoom n) (Err (TooFewRows n)) (Ok tt)

-- the reported ones of at most n entries from p on
unfoldable pub reported_at : List ℕ → ℕ → ℕ → List Info
reported_at s p n = keep is_reported_info (infos_at s p n)

-- one where an entry of the type is reported
unfoldable pub one_if : ℕ → ℕ
one_if type = cond (eqb type 0x1EFF) 0 1

-- the entry's row, where it is reported
unfoldable pub put_if : Entry → List (List ℕ)
put_if e = cond (eqb e.type_code 0x1EFF) [] ((e.type_code ∷ e.index ∷ e.name.start ∷ e.name.size ∷ e.name.cut ∷ []) ∷ [])

-- there is room for the entry's row, and its words fit
pub record RowRoom (rows : List ℕ) (at : ℕ) (e : Entry) : Type 0 where
  pub row : (at + one_if e.type_code) * type_info_width ≤ length rows
  pub start_fits : e.name.start < 2 ^ 32
  pub size_fits : e.name.size < 2 ^ 32

-- there is room for all rows, and the stream isn't long
pub record Room (s : List ℕ) (count : ℕ) (rows : List ℕ) : Type 0 where
  pub header : 32 ≤ length s
  pub not_long : length s ≤ longest
  pub all-rows : length (reported_at s 32 count) * type_info_width ≤ length rows
