use Rattle.std.proofs.Common.{refl, arith}
use Rattle.text.proofs.Chain.{wrote_as}
use Rattle.showform.proofs.Printing.{input_long, input_cut, input_whole}
use Rattle.showform.proofs.write_shown.Goals as goal

pub returns-then-input-gt-LONGEST_INPUT : goal.returns-then-input-gt-LONGEST_INPUT
returns-then-input-gt-LONGEST_INPUT c =
    let a = c.args in
    wrote_as c.refusal_line.ensures (input_long a.input.now a.infos.now a.controls.now a.properties.now (omega arith))

pub returns-then-input-at : goal.returns-then-input-at
returns-then-input-at c =
    let a = c.args in
    wrote_as c.refusal_line-then-input-at.ensures
    (input_cut a.input.now a.infos.now a.controls.now a.properties.now (omega arith) _ _ c.u32_at.ensures c.u32_at-2.ensures (omega arith))

pub returns : goal.returns
returns c =
    let a = c.args in
    wrote_as c.write_parts.ensures
    (input_whole a.input.now a.infos.now a.controls.now a.properties.now (omega (arith, c.if-input-gt-LONGEST_INPUT.false)) c.u32_at.result c.u32_at-2.result c.u32_at.ensures
    c.u32_at-2.ensures (omega (arith, c.if-input-at.false)) refl refl refl)
