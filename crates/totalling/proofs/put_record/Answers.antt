use Rattle.std.proofs.Common.{rules}
use Rattle.text.proofs.Chain.{◌⨟◌}
use Rattle.totalling.specs.Counted.{record_bytes}
use Rattle.totalling.proofs.Numbers.{record_many}
use Rattle.totalling.proofs.put_record.Goals as goal

pub returns : goal.returns
unfolding record_bytes
returns c = (
  c.put_numbers-p.ensures ⨟ (c.put_numbers-p-2.ensures ⨟ (c.put_four-p.ensures ⨟ (c.put_four-p-2.ensures ⨟ c.put_numbers.ensures))),
  record_many c.args.t (search rules) (search rules) (search rules),
)
