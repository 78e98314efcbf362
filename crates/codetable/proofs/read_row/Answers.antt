use Rattle.std.proofs.Common.{arith}
use Rattle.rules.specs.Bytes.{u16}
use Rattle.codetable.proofs.read_row.Goals as goal

pub returns-then-at-table : goal.returns-then-at-table
unfolding u16
returns-then-at-table c = record {
  id = c.number_of.ensures;
  target = record { is = omega (arith, c.number_of-then-at-table.ensures.is, c.number_of-then-at-table-2.ensures.is); small = omega (arith, c.number_of-then-at-table.ensures.small, c.number_of-then-at-table-2.ensures.small) };
  kind = c.number_of-then-at-table-3.ensures;
}
