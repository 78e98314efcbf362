use native.Mathlib.Omega.{arith}
use mathlib.Core.Path.{ap, ◌∙◌}
use mathlib.Core.List.{◌++◌}
use Prim.Native.Nat.{ℕ}
use Rattle.rules.specs.Lists.{text}
use Rattle.rules.specs.Digits.{decimal}
use Rattle.text.proofs.Chain.{◌⨟◌, wrote_as}
use Rattle.values.proofs.Marks.{cast_back, below_zero, from_zero}
use Rattle.values.proofs.put_signed.Goals as goal

pub returns-then-n-lt0 : goal.returns-then-n-lt0
returns-then-n-lt0 c =
    let z = cast_back (omega arith) c.cast_signed-n.ensures in
    wrote_as (c.put_byte-p.ensures ⨟ c.put_decimal.ensures) (ap (λ (n : ℕ). text "-" ++ decimal n) c.unsigned_abs.ensures.value ∙ below_zero _ z c.if-n-lt0.true)

pub returns : goal.returns
returns c =
    let z = cast_back (omega arith) c.cast_signed-n.ensures in
    wrote_as c.put_decimal-2.ensures (ap decimal c.unsigned_abs-2.ensures.value ∙ from_zero _ z c.if-n-lt0.false)
