-- Marks of names: where that of a name is, and that the rows before one have theirs set. How names are spread over the places matters to time alone.
use Rattle.std.specs.Prelude.{ℕ, ◌+◌, ◌*◌, ◌/◌, ◌%◌, ◌<◌, ◌≡◌, Bool, cond, List, [], ◌∷◌, eqb, length, get_or}
use Rattle.rules.specs.Panel.{is_new_name}
use Rattle.panel.specs.ByRows.{bytes_at, names_before}

abbrev pub places : ℕ
places = 16384

-- bytes as a number of 32 bits
unfoldable pub spread : List ℕ → ℕ
spread [] = 0
spread (b ∷ bs) = (spread bs * 16777619 + b) % 0x100000000

-- a number's place, from the middle of its square, and its tag, which isn't 0
unfoldable pub place_by : ℕ → ℕ
place_by n = n * n / 0x2000000 % places

abbrev pub tag_by : ℕ → ℕ
tag_by n = n % 254 + 1

abbrev pub place_of : List ℕ → ℕ
place_of name = place_by (spread name)

abbrev pub tag_of : List ℕ → ℕ
tag_of name = tag_by (spread name)

-- a mark is 0, the one tag of the names of its place, or 255 where they have several: what it is after one more
unfoldable pub changed : ℕ → ℕ → ℕ
changed mark tag = cond (eqb mark 0) tag (cond (eqb mark tag) tag 255)

-- a name that was there doesn't change its mark
abbrev pub IsMarked : List ℕ → List ℕ → Type 0
IsMarked marks name = changed (get_or marks (place_of name) 0) (tag_of name) ≡ get_or marks (place_of name) 0

-- the names of the rows before row n are marked
pub record Marked (s cs : List ℕ) (n : ℕ) (marks : List ℕ) : Type 0 where
  pub all-places : length marks ≡ places
  pub set : (j : ℕ) → j < n → IsMarked marks (bytes_at s cs j)

-- a name tried after the rows before row n: whether it is new; those rows are marked, and so is the name
pub record Noted (s cs : List ℕ) (n : ℕ) (name marks : List ℕ) (new : Bool) : Type 0 where
  pub told : new ≡ is_new_name (names_before s cs n) name
  pub earlier : Marked s cs n marks
  pub this : IsMarked marks name
