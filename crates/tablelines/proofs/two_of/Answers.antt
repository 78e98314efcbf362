use Rattle.std.proofs.Common.{sym, ap, ◌∙◌, arith}
use Rattle.tablelines.specs.Items.{below}
use Rattle.tablelines.proofs.WordLaws.{two_digits, not_two}
use Rattle.tablelines.proofs.two_of.Goals as goal

pub returns-in-len2 : goal.returns-in-len2
returns-in-len2 c = c.byte_of.ensures ∙ ap (below 256) (sym (two_digits _ (omega arith)))

pub returns-in_default : goal.returns-in_default
returns-in_default c = ap (below 256) (sym (not_two c.args.word.now (λ e. omega arith)))

pub returns-in_default-2 : goal.returns-in_default-2
returns-in_default-2 c = ap (below 256) (sym (not_two c.args.word.now (λ e. omega arith)))
