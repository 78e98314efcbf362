-- What is more than the room is refused; the rest is listed in it.
use Rattle.std.proofs.Common.{refl}
use Rattle.bloblines.proofs.Whole.{more-written, long-written, listed-written}
use Rattle.bloblines.proofs.write_form_listing.Goals as goal
use Rattle.bloblines.proofs.write_form_listing.Goals.{then-more-via-then-more, then-more-via-else-more+then-input-gt-LONGEST_INPUT}

pub returns-then-more : goal.returns-then-more
returns-then-more c = elim c.then-more.branch [
  | then-more-via-then-more w ↦ more-written c.args.input.now c.args.more w.if-more.true c.refusal_line.ensures
  | then-more-via-else-more+then-input-gt-LONGEST_INPUT w ↦ long-written c.args.input.now c.args.more w.if-more.false w.if-input-gt-LONGEST_INPUT.true c.refusal_line.ensures
]

pub returns : goal.returns
returns c = listed-written c.args.input.now c.args.more c.if-more.false c.if-input-gt-LONGEST_INPUT.false _ _ refl refl c.write_listing.ensures
