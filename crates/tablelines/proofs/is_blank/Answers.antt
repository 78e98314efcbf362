use Rattle.std.proofs.Common.{rules, arith}
use Rattle.std.proofs.lemmas.Bool.Decides.{nat_tests}
use Rattle.tablelines.specs.Words.{is_blank}
use Rattle.tablelines.proofs.is_blank.Goals as goal

pub returns-in-32 : goal.returns-in-32
unfolding is_blank
returns-in-32 c = search rules

pub returns-in_default : goal.returns-in_default
unfolding is_blank
returns-in_default c = grind (arith, nat_tests)
