use Rattle.later.proofs.WriteGroupLaws.{property-is}
use Rattle.later.proofs.property_at.Goals as goal

pub returns : goal.returns
returns c = property-is _ _ c.requires.is c.u32_at.ensures c.u16_at.ensures c.entry_value-value.ensures
