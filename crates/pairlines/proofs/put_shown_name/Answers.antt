-- By the mark: a label, bytes, UTF-16.
use native.Mathlib.Omega.{arith}
use Rattle.text.proofs.Chain.{◌⨟◌}
use Rattle.pairlines.proofs.NameLaws.{numbered, loose, units}
use Rattle.pairlines.proofs.put_shown_name.Goals as goal

pub returns-then-row-eq-NAME_NUMBERED : goal.returns-then-row-eq-NAME_NUMBERED
returns-then-row-eq-NAME_NUMBERED c = rw (numbered c.args.stream.now c.args.row (omega arith)) (c.put_text-p.ensures ⨟ c.put_decimal.ensures)

pub returns-then-row-eq-NAME_LOOSE : goal.returns-then-row-eq-NAME_LOOSE
returns-then-row-eq-NAME_LOOSE c = rw (loose c.args.stream.now c.args.row (omega arith) _ _ c.min-size.ensures c.value_bytes.ensures) c.put_name.ensures

pub returns : goal.returns
returns c = rw (units c.args.stream.now c.args.row c.if-row-eq-NAME_NUMBERED.false c.if-row-eq-NAME_LOOSE.false _ _ c.min-size-2.ensures c.value_bytes-2.ensures) c.put_unit_name.ensures
