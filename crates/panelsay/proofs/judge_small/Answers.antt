-- The room of a short input.
use Rattle.panelsay.proofs.Printing.{small-ready}
use Rattle.panelsay.proofs.judge_small.Goals as goal

pub judge-requires : goal.judge-requires
judge-requires c = small-ready c.requires c.filled-controls.ensures.value c.filled-properties.ensures.value
