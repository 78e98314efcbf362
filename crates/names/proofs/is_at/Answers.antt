use borrow.Author.Tests.{eqb-true}
use Rattle.names.proofs.Bracket.{placed}
use Rattle.names.proofs.is_at.Goals as goal

pub returns-then-near-ids : goal.returns-then-near-ids
returns-then-near-ids c e = placed c.args.ids.now c.args.id c.args.near c.requires c.if-near-ids.true (eqb-true _ _ e)
