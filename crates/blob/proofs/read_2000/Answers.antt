-- The refusals in their order, then the reading.
use native.Mathlib.Omega.{arith}
use Rattle.std.proofs.Common.{sym}
use Rattle.blob.proofs.ReaderLaws.{long_2000, bad_table_2000, other_2000, read_2000_lem}
use Rattle.blob.proofs.read_2000.Goals as goal

pub returns-then-stream-gt-LONGEST : goal.returns-then-stream-gt-LONGEST
returns-then-stream-gt-LONGEST c = long_2000 _ _ (omega arith) c.refused.ensures

pub returns-then-not-well_formed : goal.returns-then-not-well_formed
returns-then-not-well_formed c = bad_table_2000 _ _ (omega arith) (sym c.if-not-well_formed.ensures) c.refused-then-not-well_formed.ensures

pub returns-then-not-is_2000 : goal.returns-then-not-is_2000
returns-then-not-is_2000 c = other_2000 _ _ (omega arith) (sym c.if-not-well_formed.ensures) (sym c.if-not-is_2000.ensures) c.refused-then-not-is_2000.ensures

pub returns : goal.returns
returns c =
    let a = c.args in
    read_2000_lem a.table.now a.stream.now a.controls.now a.properties.now (omega arith) (sym c.if-not-well_formed.ensures) (sym c.if-not-is_2000.ensures) c.spoken_2000.ensures
