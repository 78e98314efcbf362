-- The T line: how an entry of a TypeInfo stream is listed.
use Rattle.std.specs.Prelude.{ℕ, Bool, cond, not, ◌&&◌, List, [], ◌∷◌, ◌++◌, leb, eqb}
use Rattle.rules.specs.Lists.{text}
use Rattle.rules.specs.Bytes.{part}
use Rattle.rules.specs.Digits.{decimal, hex}
use Rattle.rules.specs.NameTables.{control_type_names}
use Rattle.rules.specs.Names.{name_in_lem}
use Rattle.rules.specs.Listing.{line, or_dash, word}

-- ---- names: TypeInfo doesn't say which code page their bytes are of
-- the bytes that stand for themselves: the blank to the tilde, but the backslash
unfoldable pub is_shown : ℕ → Bool
is_shown b = leb 0x20 b && (leb b 0x7E && not (eqb b 0x5C))

-- every other byte is a backslash and two digits
unfoldable pub name_byte : ℕ → List ℕ
name_byte b = cond (is_shown b) (b ∷ []) (0x5C ∷ hex 2 b)

unfoldable pub name_bytes : List ℕ → List ℕ
name_bytes [] = []
name_bytes (b ∷ s) = name_byte b ++ name_bytes s

-- ---- the line
-- how many bytes the name has; a name that was cut had so many or more
unfoldable pub size_column : ℕ → ℕ → List ℕ
size_column size cut = cond (eqb cut 0) (decimal size) (decimal size ++ text "+")

-- number, type in hex, type name or `-`, index, bytes of the name, the name or `-`; by the words of the row: type, index, name start, name length, cut
unfoldable pub info_line : List ℕ → ℕ → List ℕ → List ℕ
info_line stream n row =
    line (text "T" ∷ decimal n ∷ hex 4 (word row 0) ∷ or_dash (name_in_lem control_type_names (word row 0))
    ∷ decimal (word row 1) ∷ size_column (word row 3) (word row 4) ∷ or_dash (name_bytes (part stream (word row 2) (word row 3))) ∷ [])
