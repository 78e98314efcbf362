-- The id of a name by the stored type.
use Prim.Native.Nat.{ℕ, ◌<◌}
use native.Mathlib.Omega.{arith}
use mathlib.Core.Path.{◌≡◌}
use mathlib.Core.Bool.{Bool, true, false, cond}
use Rattle.rules.specs.Tree.{is_section}
use Rattle.rules.specs.Read2000.{name_id}

-- a name's value has a length
pub name-id-above : (type id : ℕ) → id ≡ name_id type → 0xBC < id
name-id-above type id e = go (is_section type) e
  where
    go : (b : Bool) → id ≡ cond b 0xDF 0xDC → 0xBC < id
    go true e = omega arith
    go false e = omega arith
