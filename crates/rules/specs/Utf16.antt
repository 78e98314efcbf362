-- UTF-16. "well formed UTF-16LE means even length and paired surrogates; no bytes at all is well formed"
use Rattle.std.specs.Prelude.{ℕ, ◌+◌, ◌*◌, Bool, true, false, not, ◌&&◌, List, [], ◌∷◌, leb, ltb}

-- the first and the second half of a pair
abbrev pub is_high : ℕ → Bool
is_high u = leb 0xD800 u && ltb u 0xDC00

abbrev pub is_low : ℕ → Bool
is_low u = leb 0xDC00 u && ltb u 0xE000

abbrev pub same : Bool → Bool → Bool
same true b = b
same false b = not b

-- a second half stands right behind a first half, and nowhere else; `pending` says that a first half came right before
unfoldable pub paired : Bool → List ℕ → Bool
paired pending [] = not pending
paired pending (a ∷ []) = false
paired pending (a ∷ b ∷ s) = same pending (is_low (a + 256 * b)) && paired (is_high (a + 256 * b)) s

unfoldable pub is_utf16_lem : List ℕ → Bool
is_utf16_lem s = paired false s
