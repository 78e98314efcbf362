use Rattle.std.proofs.Common.{arith}
use Rattle.text.proofs.Chain.{◌⨟◌}
use Rattle.tablemaking.proofs.Making.{headers-byte, scopes-half, few, whole, as_said}
use Rattle.tablemaking.proofs.put_table.Goals as goal

pub overflow_cast-counts : goal.overflow_cast-counts
overflow_cast-counts c = omega (arith, headers-byte c.requires)

pub overflow_cast-counts-2 : goal.overflow_cast-counts-2
overflow_cast-counts-2 c = omega (arith, scopes-half c.requires)

pub put_scopes-p-requires : goal.put_scopes-p-requires
put_scopes-p-requires c = record { short = c.requires.short; few = few c.requires }

pub returns : goal.returns
returns c =
    as_said (whole c.requires)
    (c.put_byte-p.ensures
    ⨟ c.put_byte-p-2.ensures
    ⨟ c.put_two-p.ensures
    ⨟ c.put_parts-p.ensures
    ⨟ c.put_scopes-p.ensures
    ⨟ c.put_parts.ensures)
