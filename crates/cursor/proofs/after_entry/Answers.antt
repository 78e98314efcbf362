use Rattle.std.proofs.Common.{arith}
use Rattle.cursor.proofs.StackLaws.{moved_in}
use Rattle.cursor.proofs.after_entry.Goals as goal

pub returns : goal.returns
returns c = moved_in _ (λ e. omega arith) c.requires.low c.requires.long
