-- A refusal alone, or the lines after the answer.
use native.Mathlib.Omega.{arith}
use Rattle.infolines.proofs.Printed.{refused, wrote-all}
use Rattle.infolines.proofs.write_infos.Goals as goal

pub returns-then-a-ne0 : goal.returns-then-a-ne0
returns-then-a-ne0 c =
    refused c.args.stream.now c.args.rows.now c.read_type_info-a.result c.read_type_info-a.ensures.value c.answer_line-p.ensures (λ e. omega arith)

pub returns : goal.returns
returns c =
    wrote-all c.args.stream.now c.args.rows.now c.read_type_info-a.result c.read_type_info-a.ensures.value c.answer_line-p.ensures
    (omega (arith, c.if-a-ne0.false)) _ c.read_type_info-a.ensures.rows_after c.lines.ensures
