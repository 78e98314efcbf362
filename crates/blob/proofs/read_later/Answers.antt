-- The refusals in their order, then the reading.
use native.Mathlib.Omega.{arith}
use Rattle.std.proofs.Common.{sym}
use Rattle.blob.proofs.ReaderLaws.{long-later, other-later, read-later}
use Rattle.blob.proofs.read_later.Goals as goal

pub returns-then-stream-gt-LONGEST : goal.returns-then-stream-gt-LONGEST
returns-then-stream-gt-LONGEST c = long-later _ _ (omega arith) c.refused.ensures

pub returns-then-speaks_2000 : goal.returns-then-speaks_2000
returns-then-speaks_2000 c = other-later _ _ (omega arith) (sym c.if-speaks_2000.ensures) c.refused-then-speaks_2000.ensures

pub returns : goal.returns
returns c =
    let a = c.args in
    read-later a.layout a.stream.now a.controls.now a.properties.now (omega arith) (sym c.if-speaks_2000.ensures) c.read.ensures
