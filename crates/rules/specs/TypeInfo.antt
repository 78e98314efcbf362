-- TypeInfo.
use Rattle.std.specs.Prelude.{ℕ, zero, suc, ◌+◌, ◌-◌, ◌/◌, ◌%◌, min, Bool, not, cond, List, [], ◌∷◌, map, ltb, leb, eqb, length, drop}
use Rattle.rules.specs.Lists.{keep}
use Rattle.rules.specs.Bytes.{u16, u32}
use Rattle.rules.specs.Answer.{answer, refusal, too_short_lem, other_magic, too_many_entries, too_long_lem, more_controls, longest}
use Rattle.rules.specs.Rows.{type_info_width, room, written}
use Rattle.rules.specs.declared.Answer.{Answer}

-- ---- names
-- `cut` is 1 where the stream's end ended the name, 0 where a NUL did
pub record Named : Type 0 where
  pub start : ℕ
  pub size : ℕ
  pub next : ℕ
  pub cut : ℕ

-- how many bytes stand before the first NUL, or before the end
unfoldable pub before_nul : List ℕ → ℕ
before_nul [] = 0
before_nul (b ∷ s) = cond (eqb b 0) 0 (before_nul s + 1)

-- "NUL-ended names; the stream's end also ends a name": the name at p, and the place after its NUL. Wish 6 of document 02: "The step that reads a
-- NUL-ended name should also say whether the NUL was there"; "1 if the name used ended at the stream's end, 0 if at a NUL"
unfoldable pub nul_terminated : List ℕ → ℕ → Named
nul_terminated s p = record {
  start = p;
  size = before_nul (drop p s);
  next = min (p + before_nul (drop p s) + 1) (length s);
  cut = cond (ltb (p + before_nul (drop p s)) (length s)) 0 1;
}

-- ---- entries
pub record Info : Type 0 where
  pub type : ℕ
  pub index : ℕ
  pub name : Named

-- "The second name is used unless it is empty, then the first." "When both names are empty the word speaks of the first."
abbrev pub used : Named → Named → Named
used first second = cond (eqb second.size 0) first second

abbrev pub first_name : List ℕ → ℕ → Named
first_name s p = nul_terminated s (p + 8)

abbrev pub second_name : List ℕ → ℕ → Named
second_name s p = nul_terminated s (first_name s p).next

-- "u16 type code, two bytes passed over, u32 index, then two .. names"
unfoldable pub info_at : List ℕ → ℕ → Info
info_at s p = record { type = u16 s p; index = u32 s (p + 4); name = used (first_name s p) (second_name s p) }

-- "Low byte 0x77 passes over 36 more bytes, stopping at the end."
unfoldable pub next_info : List ℕ → ℕ → ℕ
next_info s p = cond (eqb (u16 s p % 256) 0x77) (min ((second_name s p).next + 36) (length s)) (second_name s p).next

-- "Up to the count, while 8 bytes remain". "Fewer entries than the count is accepted."
unfoldable pub infos_at : List ℕ → ℕ → ℕ → List Info
infos_at s p zero = []
infos_at s p (suc count) =
    let entries = info_at s p ∷ infos_at s (next_info s p) count in
    cond (leb (p + 8) (length s)) entries []

-- "A type of 0x1EFF is consumed and not reported."
abbrev pub is_reported_info : Info → Bool
is_reported_info i = not (eqb i.type 0x1EFF)

-- "count at 12 (u32)"; "Entries start at 32."
unfoldable pub type_info_of : List ℕ → List Info
type_info_of s = keep is_reported_info (infos_at s 32 (u32 s 12))

-- "type code, index, name start, name length"; "a fifth word in the TypeInfo row", whether the name was cut
abbrev pub type_info_row : Info → List ℕ
type_info_row i = i.type ∷ i.index ∷ i.name.start ∷ i.name.size ∷ i.name.cut ∷ []

unfoldable pub type_info_rows : List ℕ → List (List ℕ)
type_info_rows s = map type_info_row (type_info_of s)

-- ---- the answer
-- "For TypeInfo: 5, 1, 2, 3, 6." "TypeInfo's second and third counts are 0."
unfoldable pub type_info_answer : List ℕ → ℕ → Answer
type_info_answer s rowRoom =
    cond (ltb longest (length s)) (refusal too_long_lem)  -- 5
    (cond (ltb (length s) 32) (refusal too_short_lem)  -- 1
    (cond (not (eqb (u32 s 0) 0xACCDEAF7)) (refusal other_magic)  -- 2
    (cond (ltb ((length s - 32) / 8) (u32 s 12)) (refusal too_many_entries)  -- 3
    (cond (ltb rowRoom (length (type_info_of s))) (answer more_controls (length (type_info_of s)) 0 0)  -- 6
    (answer 0 (length (type_info_of s)) 0 0)))))

-- all that a caller sees
pub record TypeInfoExit : Type 0 where
  pub answer : Answer
  pub rows : List ℕ

-- "A refusal writes nothing. On 0, rows beyond the count keep their old words."
unfoldable pub type_info_exit : List ℕ → List ℕ → TypeInfoExit
type_info_exit s rows =
    let given = type_info_answer s (room type_info_width rows) in
    record { answer = given; rows = cond (eqb given.number 0) (written (type_info_rows s) rows) rows }
