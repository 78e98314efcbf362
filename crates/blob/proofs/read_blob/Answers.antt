-- The refusals in their order, then the layout.
use native.Mathlib.Omega.{arith}
use Rattle.std.proofs.Common.{sym}
use Rattle.blob.proofs.ExitLaws.{five, eight, by_2000, by-later}
use Rattle.blob.proofs.read_blob.Goals as goal

pub returns-then-stream-gt-LONGEST : goal.returns-then-stream-gt-LONGEST
returns-then-stream-gt-LONGEST c = let a = c.args in five a.table.now a.stream.now a.controls.now a.properties.now (omega arith) _ c.refused.ensures

pub returns-then-not-well_formed : goal.returns-then-not-well_formed
returns-then-not-well_formed c =
    let a = c.args in eight a.table.now a.stream.now a.controls.now a.properties.now (omega arith) (sym c.if-not-well_formed.ensures) _ c.refused-then-not-well_formed.ensures

pub returns-then-is_2000 : goal.returns-then-is_2000
returns-then-is_2000 c =
    let a = c.args in
    by_2000 a.table.now a.stream.now a.controls.now a.properties.now (omega arith) (sym c.if-not-well_formed.ensures) _ _ _ (sym c.if-is_2000.ensures) c.spoken_2000.ensures

pub returns : goal.returns
returns c =
    let a = c.args in
    by-later a.table.now a.stream.now a.controls.now a.properties.now (omega arith) (sym c.if-not-well_formed.ensures) _ _ _ (sym c.if-is_2000.ensures) c.read.ensures
