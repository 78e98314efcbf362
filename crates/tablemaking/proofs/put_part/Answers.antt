use Rattle.text.proofs.Chain.{nothing}
use Rattle.tablemaking.specs.Made.{part_bytes_lem}
use Rattle.tablemaking.proofs.Parts.{no_part-said}
use Rattle.tablemaking.proofs.put_part.Goals as goal

pub returns-in_default : goal.returns-in_default
returns-in_default c = rw (c.in_default.is, no_part-said c.args.bodies _) nothing

pub returns-then-bodies : goal.returns-then-bodies
unfolding part_bytes_lem
returns-then-bodies c = rw (c.in-Ok.is, c.if-bodies.true) c.put_if_row.ensures

pub returns : goal.returns
unfolding part_bytes_lem
returns c = rw (c.in-Ok.is, c.if-bodies.false) c.put_if_header.ensures
