-- Room for the longest input.
use native.Mathlib.Omega.{arith}
use Rattle.std.proofs.Common.{sym}
use Rattle.bloblist.proofs.Printing.{large_roomy}
use Rattle.bloblist.proofs.list_large.Goals as goal

pub list-requires : goal.list-requires
list-requires c =
    large_roomy (omega (arith, c.requires.fits, c.requires.most)) (sym c.filled-controls.ensures.size) (sym c.filled-properties.ensures.size) (omega (arith, c.filled-out.ensures.size))
