-- Letters that both are ASCII and fold to one.
use Rattle.std.proofs.Common.{◌∙◌, sym}
use borrow.Author.Tests.{ltb-true, ltb-false}
use Rattle.pairing.proofs.NameLaws.{matched, beyond}
use Rattle.pairing.proofs.same_letter.Goals as goal

pub returns-then-is_ascii : goal.returns-then-is_ascii
returns-then-is_ascii c = c.eq_ignore_ascii_case.ensures ∙ matched c.args.a c.args.b (ltb-true c.args.a 128 (sym c.if-is_ascii.ensures))

pub returns-else-is_ascii : goal.returns-else-is_ascii
returns-else-is_ascii c = c.if-is_ascii.false ∙ beyond c.args.a c.args.b (ltb-false c.args.a 128 (sym c.if-is_ascii.ensures))
