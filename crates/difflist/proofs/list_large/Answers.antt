use native.Mathlib.Omega.{arith}
use Rattle.difflist.proofs.Printing.{large_ready}
use Rattle.difflist.proofs.list_large.Goals as goal

pub list-requires : goal.list-requires
list-requires c =
    large_ready c.requires.long (omega (arith, c.requires.fits, c.requires.most)) c.filled-rows.ensures.value c.filled-controls.ensures.value c.filled-properties.ensures.value c.filled-out.ensures.size
