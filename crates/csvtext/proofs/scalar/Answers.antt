use native.Mathlib.Omega.{arith}
use mathlib.Core.Path.{sym}
use Rattle.csvtext.proofs.UnitLaws.{scalar-alone, scalar-pair}
use Rattle.csvtext.proofs.scalar.Goals as goal

pub returns-then-high-eq0 : goal.returns-then-high-eq0
returns-then-high-eq0 c =
    sym (scalar-alone c.args.high c.args.u (omega arith))

pub returns : goal.returns
returns c =
    omega (arith, scalar-pair c.args.high c.args.u (λ e. omega arith))
