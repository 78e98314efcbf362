-- The entry at `at`, and the place after it.
use Rattle.typeinfo.proofs.NulLaws.{next_of}
use Rattle.typeinfo.proofs.EntryLaws.{uses_first, uses_second}
use Rattle.typeinfo.proofs.type_info_entry.Goals as goal

pub nul_terminated-second-requires : goal.nul_terminated-second-requires
nul_terminated-second-requires c = next_of _ _ _ c.nul_terminated-first.ensures

pub past_tail-next-requires : goal.past_tail-next-requires
past_tail-next-requires c = next_of _ _ _ c.nul_terminated-second.ensures

pub returns-then-second-eq0 : goal.returns-then-second-eq0
returns-then-second-eq0 c = uses_first (record {
  type-is = c.u16_inside-type_code.ensures;
  index_is = c.u32_inside-index.ensures;
  first-is = c.nul_terminated-first.ensures;
  second_is = c.nul_terminated-second.ensures;
  next-is = c.past_tail-next.ensures;
}) c.if-second-eq0.true

pub returns-else-second-eq0 : goal.returns-else-second-eq0
returns-else-second-eq0 c = uses_second (record {
  type-is = c.u16_inside-type_code.ensures;
  index_is = c.u32_inside-index.ensures;
  first-is = c.nul_terminated-first.ensures;
  second_is = c.nul_terminated-second.ensures;
  next-is = c.past_tail-next.ensures;
}) c.if-second-eq0.false
