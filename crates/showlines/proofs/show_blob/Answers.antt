use Rattle.std.proofs.Common.{rules, ◌<◌, ap, arith}
use Rattle.rules.specs.Blob.{Exit}
use Rattle.text.proofs.Chain.{wrote_as}
use Rattle.showlines.specs.Shown.{shown_by_lem}
use Rattle.showlines.proofs.ReadLaws.{blob-ready}
use Rattle.showlines.proofs.show_blob.Goals as goal

pub put_read-requires : goal.put_read-requires
put_read-requires c =
    let a = c.args in
    -- the counts are numbers of 32 bits
    let word : c.read_blob-a.result.second < 4294967296 = search rules in
    blob-ready a.controls.now a.properties.now c.requires a.table.now a.stream.now c.read_blob-a.ensures (omega (arith, word))

pub returns : goal.returns
returns c =
    let a = c.args in
    wrote_as c.put_read.ensures (ap (λ (e : Exit). shown_by_lem a.table.now a.stream.now e) c.read_blob-a.ensures)
