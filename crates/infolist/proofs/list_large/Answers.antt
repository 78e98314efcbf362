-- Room for the longest stream.
use native.Mathlib.Omega.{arith}
use Rattle.infolist.proofs.Printing.{roomy}
use Rattle.infolist.proofs.list_large.Goals as goal

pub list-requires : goal.list-requires
list-requires c =
    roomy 4194304 (omega arith) (omega (arith, c.requires.fits, c.requires.most)) (omega (arith, c.filled-rows.ensures.size)) (omega (arith, c.filled-out.ensures.size))
