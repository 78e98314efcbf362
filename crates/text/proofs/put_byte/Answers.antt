use Rattle.text.proofs.Chain.{byte, no_room}
use Rattle.text.proofs.put_byte.Goals as goal

pub returns-then-at-out : goal.returns-then-at-out
returns-then-at-out c = byte c.if-at-out.true

pub returns : goal.returns
returns c = no_room c.if-at-out.false
