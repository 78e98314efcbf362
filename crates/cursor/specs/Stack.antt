-- The open lists as the code keeps them: the innermost in the cursor, those around it on the lent stack, two words for each level.
use Rattle.std.specs.Prelude.{ℕ, zero, suc, ◌+◌, ◌*◌, ◌-◌, ◌≤◌, ◌<◌, ◌≡◌, List, [], ◌∷◌, length, get_or}
use Rattle.std.proofs.Math.Option.{Option, none, some}
use Rattle.rules.specs.Tree.{levels}
use Rattle.cursor.specs.Walk.{Frame, frame}
use Rattle.cursor.specs.declared.Cursor.{Cursor}

-- as the code's STACK_WORDS says
abbrev pub stack_words : ℕ
stack_words = levels * 2

unfoldable pub outer : List ℕ → ℕ → List Frame
outer a zero = []
outer a (suc l) = frame (get_or a (l * 2) 0) (get_or a (l * 2 + 1) 0) ∷ outer a l

-- the innermost list, and those around it
abbrev pub Open : Type 0
Open = Frame × List Frame

abbrev pub opened : List ℕ → Cursor → Open
opened a c = (frame c.left c.parent, outer a c.level)

-- lists that have no entry left are closed, but for the outermost
unfoldable pub unwind : Frame → List Frame → Open
unwind f [] = (f, [])
unwind f (g ∷ fs) = elim f.left [ zero ↦ unwind g fs | suc k ↦ (f, g ∷ fs) ]

-- after an entry of row n whose list has so many entries
unfoldable pub moved : Frame → List Frame → ℕ → ℕ → Open
moved f fs n zero = unwind f fs
moved f fs n (suc m) = (frame (suc m) n, f ∷ fs)

abbrev pub count_of : Option ℕ → ℕ
count_of none = 0
count_of (some m) = m

-- the cursor stands before an entry, and the stack holds every level
pub record Before (a : List ℕ) (c : Cursor) : Type 0 where
  pub long : length a ≡ stack_words
  pub some_left : 0 < c.left
  pub low : c.level < levels

-- the cursor r after the entry at the cursor c, whose list has so many entries and starts at `next`
pub record Moved (a : List ℕ) (c : Cursor) (row count next : ℕ) (a' : List ℕ) (r : Cursor) : Type 0 where
  pub long : length a' ≡ length a
  pub at-is : r.at ≡ next
  pub low : r.level ≤ levels
  pub is : opened a' r ≡ moved (frame (c.left - 1) c.parent) (outer a c.level) row count

pub record Unwound (a : List ℕ) (c r : Cursor) : Type 0 where
  pub at-is : r.at ≡ c.at
  pub low : r.level ≤ c.level
  pub is : opened a r ≡ unwind (frame c.left c.parent) (outer a c.level)
