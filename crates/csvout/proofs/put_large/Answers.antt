use native.Mathlib.Omega.{arith}
use Rattle.csvout.proofs.Printing.{more-refused}
use Rattle.csvout.proofs.put_large.Goals as goal

pub refuse-requires : goal.refuse-requires
refuse-requires c = more-refused (omega (arith, c.requires.most, c.has_more.ensures c.if-has_more.true))
