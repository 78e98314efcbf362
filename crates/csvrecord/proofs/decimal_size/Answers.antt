use native.Mathlib.Omega.{arith}
use Rattle.csvrecord.proofs.RecordLaws.{label-size}
use Rattle.csvrecord.proofs.decimal_size.Goals as goal

pub overflow_sub-result : goal.overflow_sub-result
overflow_sub-result c =
    omega (arith, label-size c.args.n, c.label_length.ensures)

pub returns : goal.returns
returns c =
    omega (arith, label-size c.args.n, c.label_length.ensures)
