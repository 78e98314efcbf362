use native.Mathlib.Omega.{arith}
use Rattle.rules.specs.Reading.{property_row}
use Rattle.csvrecord.proofs.RecordLaws.{tail_size}
use Rattle.csvrecord.proofs.record_left.Goals as goal

pub returns : goal.returns
returns c =
    let a = c.args in
    omega (arith, tail_size a.stream.now (property_row a.p))
