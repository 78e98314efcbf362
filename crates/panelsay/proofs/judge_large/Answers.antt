-- The room of every other input; what is read fits.
use native.Mathlib.Omega.{arith}
use Rattle.panelsay.proofs.Printing.{large_ready}
use Rattle.panelsay.proofs.judge_large.Goals as goal

pub judge-requires : goal.judge-requires
judge-requires c = large_ready c.requires.long (omega (arith, c.requires.fits, c.requires.most)) c.filled-controls.ensures.value c.filled-properties.ensures.value
