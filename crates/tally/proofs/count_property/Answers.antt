use Rattle.tally.proofs.BumpLaws.{property-counted}
use Rattle.tally.proofs.count_property.Goals as goal

pub returns : goal.returns
returns c = property-counted c.args.in_2000 c.args.p c.args.words.now c.mapping_place.ensures c.bump.ensures c.bump-2.ensures
