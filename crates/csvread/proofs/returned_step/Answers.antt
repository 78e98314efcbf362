use mathlib.Core.Path.{sym}
use Rattle.csvread.proofs.ByteLaws.{line-ends, no-line-end}
use Rattle.csvread.proofs.returned_step.Goals as goal

pub returns-then-b-eq-LF : goal.returns-then-b-eq-LF
returns-then-b-eq-LF c = sym (line-ends _ _ c.if-b-eq-LF.true)

pub returns : goal.returns
returns c = sym (no-line-end _ _ c.if-b-eq-LF.false)
