-- The nodes of a later stream, one at a time.
use Rattle.std.specs.Prelude.{ℕ, zero, suc, ◌+◌, List, length}
use Rattle.std.proofs.Math.Option.{Option, none, some}
use Rattle.rules.specs.Lists.{◌>>=◌}
use Rattle.rules.specs.Bytes.{u16}
use Rattle.rules.specs.Later.{Prop, group_at, children_at}
use Rattle.cursor.specs.Walk.{Steps}

-- a node without children holds no list
abbrev pub list_of : ℕ → Option ℕ
list_of zero = none
list_of (suc n) = some (suc n)

-- "A node: u16 type, 4 bytes, a group that must end by a trailer, its children", up to the children
unfoldable pub step_at : List ℕ → Steps Prop
step_at s p = do
  trailer ← (group_at s (length s) (p + 6)).trailer
  (n, q) ← children_at s trailer (group_at s (length s) (p + 6)).stop
  some (record { type = u16 s p; props = (group_at s (length s) (p + 6)).props; children = list_of n; next = q })
