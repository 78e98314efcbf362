-- Room for the longest stream that is read at once.
use native.Mathlib.Omega.{arith}
use Rattle.infolist.proofs.Printing.{roomy}
use Rattle.infolist.proofs.list_small.Goals as goal

pub list-requires : goal.list-requires
list-requires c = roomy 65536 (omega arith) c.requires (omega (arith, c.filled-rows.ensures.size)) (omega (arith, c.filled-out.ensures.size))
