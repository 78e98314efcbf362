use native.Mathlib.Omega.{arith}
use mathlib.Core.Path.{ap}
use Prim.Native.Nat.{ℕ}
use lib.ListN.{length}
use Rattle.rules.specs.Digits.{decimal}
use Rattle.values.proofs.Marks.{cast_back, below_zero, from_zero}
use Rattle.csvrecord.proofs.signed_size.Goals as goal

pub returns-then-n-lt0 : goal.returns-then-n-lt0
returns-then-n-lt0 c =
    let z = cast_back (omega arith) c.cast_signed-n.ensures in
    let e = ap length (below_zero _ z c.if-n-lt0.true) in
    omega (arith, e, c.decimal_size-digits.ensures, ap (λ (n : ℕ). length (decimal n)) c.unsigned_abs.ensures.value)

pub returns-else-n-lt0 : goal.returns-else-n-lt0
returns-else-n-lt0 c =
    let z = cast_back (omega arith) c.cast_signed-n.ensures in
    let e = ap length (from_zero _ z c.if-n-lt0.false) in
    omega (arith, e, c.decimal_size-digits.ensures, ap (λ (n : ℕ). length (decimal n)) c.unsigned_abs.ensures.value)
