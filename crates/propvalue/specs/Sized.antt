-- How many bytes an id of the Access 2000 layout tells its value to have, where it tells.
use Rattle.std.specs.Prelude.{ℕ, ◌≤◌, ◌≡◌, cond, leb, Option, Some, None}

-- "Ids to 0x2F carry 0 bytes, to 0x5F one .., to 0x7F two .., to 0xBC four .., to 0xFC a length and bytes."
unfoldable pub size_of : ℕ → Option ℕ
size_of id = cond (leb id 0x2F) (Some 0) (cond (leb id 0x5F) (Some 1) (cond (leb id 0x7F) (Some 2) (cond (leb id 0xBC) (Some 4) None)))

-- n bytes are enough for a value with this id, where the id tells how many it has
pub record Sized (id n : ℕ) : Type 0 where
  pub enough : (m : ℕ) → size_of id ≡ Some m → m ≤ n

-- the id tells, and n bytes are enough
pub record SizedValue (id n : ℕ) : Type 0 where
  pub tells : id ≤ 0xBC
  pub sized : Sized id n
