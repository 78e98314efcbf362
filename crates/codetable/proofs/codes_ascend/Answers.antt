use Rattle.std.proofs.Common.{sym, ◌∙◌, arith}
use Rattle.codetable.proofs.Steps.{codes_fail, codes_step, codes_done}
use Rattle.codetable.proofs.codes_ascend.Goals as goal

pub returns-then-code-least : goal.returns-then-code-least
returns-then-code-least c =
    sym (c.loop-i.invariant.decide ∙ codes_fail (record { more = omega arith; code_is = c.u16_number-code.ensures.is }) _ (omega arith))

pub loop-i-preserved : goal.loop-i-preserved
loop-i-preserved c = record {
  decide = c.loop-i.invariant.decide ∙ codes_step (record { more = omega arith; code_is = c.u16_number-code.ensures.is }) _ (omega arith);
  code_small = omega arith;
}

pub returns : goal.returns
returns c = sym (c.loop-i.invariant.decide ∙ codes_done _ _ _ _ _ (omega arith))
