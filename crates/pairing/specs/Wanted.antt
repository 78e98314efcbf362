-- A name that is looked for, letter by letter.
use Rattle.std.specs.Prelude.{ℕ, zero, suc, ◌+◌, ◌*◌, ◌≤◌, ◌≡◌, Bool, false, cond, ◌&&◌, List, [], ◌∷◌, ltb, eqb, length}
use Rattle.rules.specs.Bytes.{byte, u16, part}
use Rattle.rules.specs.Pairing.{is_ascii_lem, folded, names_match}
use Rattle.pairing.specs.declared.Wanted.{Wanted}

-- two letters that match
unfoldable pub same_letter : ℕ → ℕ → Bool
same_letter a b = is_ascii_lem a && is_ascii_lem b && eqb (folded a) (folded b)

-- a letter as a byte; what is no byte isn't ASCII either
unfoldable pub as_byte_lem : ℕ → ℕ
as_byte_lem u = cond (ltb u 256) u 255

-- letter i of a name
unfoldable pub unit_at : List ℕ → Wanted → ℕ → ℕ
unit_at s name i = cond name.wide (u16 s (name.start + 2 * i)) (byte s (name.start + i))

-- n letters of it, from letter i on
unfoldable pub units_from : List ℕ → Wanted → ℕ → ℕ → List ℕ
units_from s name i zero = []
units_from s name i (suc n) = unit_at s name i ∷ units_from s name (i + 1) n

unfoldable pub name_of : List ℕ → Wanted → List ℕ
name_of s name = units_from s name 0 name.letters

-- its bytes stand inside the stream
abbrev pub Inside : List ℕ → Wanted → Type 0
Inside s name = name.start + cond name.wide (2 * name.letters) name.letters ≤ length s

-- `false` where the last letters tell that the name isn't that of as many bytes of t from `at` on
abbrev pub Ends : List ℕ → Wanted → List ℕ → ℕ → Bool → Type 0
Ends s name t at r = r ≡ false → names_match (name_of s name) (part t at name.letters) ≡ false
