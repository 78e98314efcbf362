use Rattle.csvout.proofs.Printing.{no_length}
use Rattle.csvout.proofs.refuse_few.Goals as goal

pub refuse-requires : goal.refuse-requires
refuse-requires c = no_length _ c.requires
