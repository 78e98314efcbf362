use Rattle.std.proofs.Common.{rules, ◌<◌, arith}
use Rattle.text.proofs.Chain.{wrote_as}
use Rattle.showlines.proofs.ReadLaws.{paired-ready, info_refused, paired-shown}
use Rattle.showlines.proofs.show_paired.Goals as goal

pub returns-then-i-ne-READ : goal.returns-then-i-ne-READ
returns-then-i-ne-READ c =
    let a = c.args in
    let info = c.read_type_info-i.ensures in
    wrote_as c.info_line.ensures
    (info_refused a.table.now a.info.now a.stream.now a.infos.now a.controls.now a.properties.now info.value info.rows_after (λ e. omega arith))

pub put_read-requires : goal.put_read-requires
put_read-requires c =
    let a = c.args in
    -- the counts are numbers of 32 bits
    let word : c.read_later-a.result.second < 4294967296 = search rules in
    paired-ready a.controls.now a.properties.now c.requires _ a.stream.now a.info.now _ _ c.read_later-a.ensures c.pair.ensures.controls_after
    (omega (arith, word))

pub returns : goal.returns
returns c =
    let a = c.args in
    let info = c.read_type_info-i.ensures in
    wrote_as c.put_read.ensures
    (paired-shown a.table.now a.info.now a.stream.now a.infos.now a.controls.now a.properties.now info.value info.rows_after
    (omega (arith, c.if-i-ne-READ.false)) c.layout-layout.ensures c.read_later-a.ensures c.pair.ensures.controls_after)
