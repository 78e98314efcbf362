use Rattle.text.proofs.Chain.{wrote_as}
use Rattle.listing.proofs.Rows.{answer-is}
use Rattle.listing.proofs.answer_line.Goals as goal

pub returns : goal.returns
returns c =
    wrote_as c.numbers_line.ensures (answer-is c.args.a)
