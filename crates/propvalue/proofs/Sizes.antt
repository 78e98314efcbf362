-- What follows from the size that an id tells.
use Prim.Native.Nat.{ℕ, ◌≤◌, ◌<◌}
use native.Mathlib.Omega.{arith}
use mathlib.Core.Path.{◌≡◌}
use mathlib.Core.Bool.{Bool, true, false, cond}
use lib.Dec.{leb}
use borrow.Author.Tests.{le-leb, lt-leb}
use Rattle.std.proofs.Common.{Some, None}
use Rattle.propvalue.specs.Sized.{size_of, SizedValue}

-- no id tells of more than four bytes
pub tells-few : (id n : ℕ) → size_of id ≡ Some n → n ≤ 4
unfolding size_of
tells-few id n = go (leb id 0x2F) (leb id 0x5F) (leb id 0x7F) (leb id 0xBC)
  where
    go : (a b c d : Bool) → cond a (Some 0) (cond b (Some 1) (cond c (Some 2) (cond d (Some 4) None))) ≡ Some n → n ≤ 4
    go true b c d e = let k : 0 ≡ n = cc in omega arith
    go false true c d e = let k : 1 ≡ n = cc in omega arith
    go false false true d e = let k : 2 ≡ n = cc in omega arith
    go false false false true e = let k : 4 ≡ n = cc in omega arith
    go false false false false e = cc

-- bytes that are enough have room for what the id tells
module _ (id n : ℕ) (s : SizedValue id n) where
  pub byte_room : 0x2F < id → id ≤ 0x5F → 1 ≤ n
  unfolding size_of
  byte_room l h = s.sized.enough 1 (simp (lt-leb id 0x2F l, le-leb id 0x5F h))

  pub short_room : 0x5F < id → id ≤ 0x7F → 2 ≤ n
  unfolding size_of
  short_room l h = s.sized.enough 2 (simp (lt-leb id 0x2F (omega arith), lt-leb id 0x5F l, le-leb id 0x7F h))

  pub long_room : 0x7F < id → 4 ≤ n
  unfolding size_of
  long_room l = s.sized.enough 4 (simp (lt-leb id 0x2F (omega arith), lt-leb id 0x5F (omega arith), lt-leb id 0x7F l, le-leb id 0xBC s.tells))
