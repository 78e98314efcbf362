use Rattle.rules.specs.Csv.{countable}
use Rattle.csvread.proofs.countable.Goals as goal

pub returns : goal.returns
unfolding countable
returns c = c.min.ensures
