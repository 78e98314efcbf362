use Rattle.showform.proofs.Printing.{small-ready}
use Rattle.showform.proofs.show_short.Goals as goal

pub show-requires : goal.show-requires
show-requires c = small-ready c.requires c.filled-infos.ensures.value c.filled-controls.ensures.value c.filled-properties.ensures.value
