-- Wish 5 of document 02. "A character is a Unicode scalar value: for UTF-16 text a surrogate pair counts once." The listing prints how many `scalars` a text has
-- (rules/specs/Listing, `characters`). Here UTF-16 is said a second time, as the Unicode Standard does: how characters are written.
use Rattle.std.specs.Prelude.{ℕ, ◌+◌, ◌*◌, ◌-◌, ◌/◌, ◌%◌, ◌≤◌, ◌<◌, ◌≡◌, true, List, [], ◌∷◌, ◌⊎◌, ◌↔◌, ltb, length}
use Rattle.rules.specs.Lists.{keep}
use Rattle.rules.specs.Bytes.{Bytes, part}
use Rattle.rules.specs.Utf16.{is_utf16_lem}
use Rattle.rules.specs.Scalars.{scalars}
use Rattle.rules.specs.Blob.{Exit, exit}
use Rattle.claims.specs.Ways.{Way, nothing, half, ◌from◌to◌, ◌then◌, ◌or◌, ◌and◌}
use Rattle.claims.specs.RowChecks.{name_mark, name_start, name_length, value_mark, value_start, value_length}

-- WHAT IS WRITTEN

-- a Unicode scalar value: a number up to 10FFFF that is no surrogate
abbrev pub Scalar : ℕ → Type 0
Scalar c = (c ≤ 0xD7FF) ⊎ (c from 0xE000 to 0x10FFFF)

abbrev pub Scalars : List ℕ → Type 0
Scalars [] = Unit
Scalars (c ∷ cs) = Scalar c × Scalars cs

-- HOW IT IS WRITTEN

-- a character up to FFFF in one unit of two bytes; one above in a pair of units, each with ten bits of what it is above FFFF
abbrev pub character : ℕ → Way
character c =
    c ≤ 0xD7FF and half c
    or c from 0xE000 to 0xFFFF and half c
    or c from 0x10000 to 0x10FFFF and half (0xD800 + (c - 0x10000) / 0x400) then half (0xDC00 + (c - 0x10000) % 0x400)

-- characters, one after the other
unfoldable pub characters : List ℕ → Way
characters [] = nothing
characters (c ∷ cs) = character c then characters cs

-- those that are pairs
abbrev pub pairs : List ℕ → List ℕ
pairs cs = keep (λ c. ltb 0xFFFF c) cs

-- WHAT IS PROMISED

-- the bytes whose characters are counted are well-formed UTF-16: names with mark 0, values with mark 6
pub record Formed (stream : List ℕ) (seen : Exit) : Type 0 where
  pub names : (i : ℕ) → i < seen.answer.first → name_mark seen i ≡ 0 → is_utf16_lem (part stream (name_start seen i) (name_length seen i)) ≡ true
  pub values : (j : ℕ) → j < seen.answer.second → value_mark seen j ≡ 6 → is_utf16_lem (part stream (value_start seen j) (value_length seen j)) ≡ true

pub record Wish5 : Type 0 where
  pub formed : (table stream controls properties : List ℕ) → (exit table stream controls properties).answer.number ≡ 0
      → Formed stream (exit table stream controls properties)
  -- bytes are well-formed UTF-16 exactly when they are characters written so
  pub well-formed : (s : List ℕ) → Bytes s → (is_utf16_lem s ≡ true) ↔ ((cs : List ℕ) × characters cs s)
  -- "A character is a Unicode scalar value": those that are counted are these characters, and no others are written so
  pub counted : (s cs : List ℕ) → characters cs s → scalars s ≡ cs
  -- each is a Unicode scalar value, and any of these can be written
  pub scalar-values : (s cs : List ℕ) → characters cs s → Scalars cs
  pub every_text : (cs : List ℕ) → Scalars cs → (s : List ℕ) × (Bytes s × characters cs s)
  -- "a surrogate pair counts once": there are as many characters as units, of two bytes each, less the pairs
  pub number : (s : List ℕ) → Bytes s → is_utf16_lem s ≡ true → length s ≡ 2 * (length (scalars s) + length (pairs (scalars s)))
