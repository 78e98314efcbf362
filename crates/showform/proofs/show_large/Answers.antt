use native.Mathlib.Omega.{arith}
use Rattle.showform.proofs.Printing.{large_ready}
use Rattle.showform.proofs.show_large.Goals as goal

pub show-requires : goal.show-requires
show-requires c =
    large_ready c.requires.long (omega (arith, c.requires.fits, c.requires.most)) c.filled-infos.ensures.value c.filled-controls.ensures.value c.filled-properties.ensures.value
