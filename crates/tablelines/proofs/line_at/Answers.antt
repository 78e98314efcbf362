use Rattle.std.proofs.Common.{arith, rules}
use Rattle.tablelines.specs.Words.{line_end, sign, stops}
use Rattle.tablelines.proofs.WordLaws.{in_front, from_it_on}
use Rattle.tablelines.proofs.LineLaws.{line-found}
use Rattle.tablelines.proofs.line_at.Goals as goal

pub returns : goal.returns
unfolding stops
returns c =
    line-found (omega arith) c.cut.ensures.joined (in_front line_end (λ b r h. search rules) c.cut.ensures) (from_it_on line_end (λ b r h. search rules) c.cut.ensures)
    (in_front sign (λ b r h. search rules) c.cut-2.ensures) c.item_in.ensures
