use Rattle.std.proofs.Common.{ℕ, List, sym, ap, arith}
use Rattle.rules.specs.Csv.{or_id}
use Rattle.text.proofs.Chain.{wrote_as}
use Rattle.csvrecord.proofs.RecordLaws.{id-alone}
use Rattle.showlines.proofs.put_property.Goals as goal

pub returns-then-id-gt-LAST_NAMED : goal.returns-then-id-gt-LAST_NAMED
returns-then-id-gt-LAST_NAMED c = wrote_as c.put_hex.ensures (sym (id-alone c.args.mark c.args.id (omega arith)))

pub returns : goal.returns
returns c = wrote_as c.put_name_or_id.ensures (ap (λ (l : List ℕ). or_id l c.args.id) c.value_name_in.ensures)
