-- TypeInfo is refused, the Blob is, or both are read.
use native.Mathlib.Omega.{arith}
use Rattle.std.proofs.Common.{rules}
use Rattle.pairlines.proofs.Paired.{info_refused, blob-refused, may_again, all_read}
use Rattle.pairlines.proofs.pair_lines.Goals as goal

pub returns-then-t-ne0 : goal.returns-then-t-ne0
returns-then-t-ne0 c =
    let a = c.args in
    info_refused a.layout a.info_stream.now a.stream.now a.infos.now a.controls.now a.properties.now c.read_type_info-t.ensures.value c.read_type_info-t.ensures.rows_after
    (record { number = omega arith; first = omega arith; second = omega arith; third = omega arith }) (λ e. omega arith) c.answer_line-p.ensures

pub returns-then-a-ne0 : goal.returns-then-a-ne0
returns-then-a-ne0 c =
    let a = c.args in
    blob-refused a.layout a.info_stream.now a.stream.now a.infos.now a.controls.now a.properties.now c.read_type_info-t.ensures.value c.read_type_info-t.ensures.rows_after
    (omega (arith, c.if-t-ne0.false)) c.read_later-a.ensures
    (record { number = omega arith; first = omega arith; second = omega arith; third = omega arith })
    (record { number = omega arith; first = omega arith; second = omega arith; third = omega arith })
    (λ e. omega arith) c.answer_line-p.ensures c.answer_line-p-2.ensures

pub unpaired_lines-requires : goal.unpaired_lines-requires
unpaired_lines-requires c =
    let a = c.args in
    may_again a.layout a.info_stream.now a.stream.now a.infos.now a.controls.now a.properties.now c.read_type_info-t.ensures.value c.read_type_info-t.ensures.rows_after
    (omega (arith, c.if-t-ne0.false)) c.read_later-a.ensures (omega (arith, c.if-a-ne0.false)) c.pair.ensures.controls_after

pub returns : goal.returns
returns c =
    let a = c.args in
    all_read a.layout a.info_stream.now a.stream.now a.infos.now a.controls.now a.properties.now c.read_type_info-t.ensures.value c.read_type_info-t.ensures.rows_after
    (omega (arith, c.if-t-ne0.false)) c.read_later-a.ensures (omega (arith, c.if-a-ne0.false)) c.pair.ensures.controls_after
    (record { number = omega arith; first = omega arith; second = omega arith; third = omega arith })
    (λ i. search rules)
    (record { number = omega arith; first = omega arith; second = omega arith; third = omega arith })
    c.answer_line-p.ensures c.answer_line-p-2.ensures c.lines-p.ensures c.unpaired_lines.ensures
