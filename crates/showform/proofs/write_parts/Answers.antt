use Rattle.std.proofs.Common.{arith}
use Rattle.text.proofs.Chain.{wrote_as}
use Rattle.showform.proofs.Printing.{info_long, blob-long, alone, paired}
use Rattle.showform.proofs.write_parts.Goals as goal

pub returns-then-info-gt-LONGEST_STREAM : goal.returns-then-info-gt-LONGEST_STREAM
returns-then-info-gt-LONGEST_STREAM c =
    let a = c.args in
    wrote_as c.refusal_line.ensures (info_long a.table.now a.info.now a.stream.now a.infos.now a.controls.now a.properties.now (omega arith))

pub returns-then-stream-gt-LONGEST_STREAM : goal.returns-then-stream-gt-LONGEST_STREAM
returns-then-stream-gt-LONGEST_STREAM c =
    let a = c.args in
    wrote_as c.refusal_line-then-stream-gt-LONGEST_STREAM.ensures
    (blob-long a.table.now a.info.now a.stream.now a.infos.now a.controls.now a.properties.now (omega arith) (omega arith))

pub returns-then-info-eq0 : goal.returns-then-info-eq0
returns-then-info-eq0 c =
    let a = c.args in
    wrote_as c.show_blob.ensures
    (alone a.table.now a.info.now a.stream.now a.infos.now a.controls.now a.properties.now (omega arith) (omega arith) (omega arith))

pub returns : goal.returns
returns c =
    let a = c.args in
    wrote_as c.show_paired.ensures
    (paired a.table.now a.info.now a.stream.now a.infos.now a.controls.now a.properties.now (omega (arith, c.if-info-gt-LONGEST_STREAM.false)) (omega (arith, c.if-stream-gt-LONGEST_STREAM.false))
    (λ e. c.if-info-eq0.false e))
