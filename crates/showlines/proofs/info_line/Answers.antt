use Rattle.listing.specs.Numbers.{numbers_line}
use Rattle.showlines.specs.Shown.{info_line}
use Rattle.showlines.proofs.info_line.Goals as goal

pub returns : goal.returns
unfolding numbers_line info_line
returns c = c.numbers_line.ensures
