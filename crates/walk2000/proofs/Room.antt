-- What is read takes at least as many bytes as are counted.
use Prim.Native.Nat.{ℕ, ◌+◌, ◌≤◌, ◌<◌}
use native.Mathlib.Omega.{arith}
use mathlib.Core.Path.{◌≡◌}
use mathlib.Core.List.{List}
use mathlib.Core.Option.{some}
use Rattle.std.proofs.Common.{Option, Some}
use Rattle.rules.specs.Access2000.{run_at, head_at_lem}
use Rattle.rules.specs.Told.{told_as}
use Rattle.rules.proofs.ListLaws.{every_at}
use Rattle.walk2000.specs.Told as told
use Rattle.walk2000.specs.declared.Run.{Run}
use Rattle.walk2000.specs.declared.Opens.{Opens}
use Rattle.walk2000.proofs.Inverse.{run_of, opens_listed}
use Rattle.walk2000.proofs.Grows.{run_grows, head_grows}

pub run_room : (s : List ℕ) (p : ℕ) (r : Option Run) (y : Run) → r ≡ told_as told.run (run_at s p) → r ≡ Some y → p + y.count ≤ y.next
run_room s p r y re rk =
    let x = run_of (run_at s p) r y re rk in
    let g = every_at _ (run_at s p) (x.0, y.next) (run_grows s p) x.2 in
    omega (arith, x.1, g)

pub head-room : (s : List ℕ) (p : ℕ) (r : Option Opens) (n e : ℕ) → r ≡ told_as told.head (head_at_lem s p) → r ≡ Some (Opens.Listed n e) → p < e
head-room s p r n e re rk = every_at _ (head_at_lem s p) (some n, e) (head_grows s p) (opens_listed (head_at_lem s p) r n e re rk)
