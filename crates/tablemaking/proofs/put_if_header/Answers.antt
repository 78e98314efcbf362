use Rattle.std.proofs.Common.{[]}
use Rattle.rules.specs.Bytes.{two_bytes_lem}
use Rattle.text.proofs.Chain.{nothing}
use Rattle.tablemaking.specs.Made.{by_part_lem, code_bytes}
use Rattle.tablemaking.proofs.Parts.{no_header}
use Rattle.tablemaking.proofs.put_if_header.Goals as goal

pub returns-in-Header : goal.returns-in-Header
unfolding code_bytes by_part_lem
returns-in-Header c = rw c.in-Header.is c.put_two.ensures

pub returns-in_default : goal.returns-in_default
unfolding code_bytes
returns-in_default c = rw (no_header [] two_bytes_lem c.args.item c.in_default.not-Header) nothing
