use Rattle.std.proofs.Common.{sym, ap, ◌∙◌, arith}
use Rattle.rules.specs.Value.{value_as_lem}
use Rattle.propvalue.proofs.Values.{by-id}
use Rattle.run2000.proofs.Shows.{plain-text}
use Rattle.run2000.proofs.value_by_kind.Goals as goal

pub returns-then-p-le-LAST_SIZED_ID : goal.returns-then-p-le-LAST_SIZED_ID
returns-then-p-le-LAST_SIZED_ID c =
    c.sized_stored_value.ensures ∙ sym (by-id c.args.p.id _ c.args.kind (omega arith)) ∙ ap (value_as_lem c.args.kind c.args.p.id) c.part-bytes.ensures

pub returns-then-is_plain : goal.returns-then-is_plain
returns-then-is_plain c = plain-text _ _ _ _ c.part-bytes.ensures (omega arith) c.if-kind-eq-KIND_TEXT.true (c.is_plain.ensures c.if-is_plain.true)
