use Rattle.difflist.proofs.Printing.{small-ready}
use Rattle.difflist.proofs.list_small.Goals as goal

pub list-requires : goal.list-requires
list-requires c =
    small-ready c.requires c.filled-rows.ensures.value c.filled-controls.ensures.value c.filled-properties.ensures.value c.filled-out.ensures.size
