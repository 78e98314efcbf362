use Rattle.std.proofs.Common.{sym, ◌∙◌, arith}
use Rattle.codetable.proofs.Steps.{ties_begin, ties_low, ties_target, ties_kind, ties_step, ties_done}
use Rattle.codetable.proofs.ties_ok.Goals as goal

pub loop-i-init : goal.loop-i-init
loop-i-init c = sym (ties_begin _ _ _)

pub returns-then-id-least : goal.returns-then-id-least
returns-then-id-least c =
    sym (c.loop-i.invariant ∙ ties_low (record { more = omega arith; id-is = c.number_of-id.ensures.is; low_small = (c.type_inv.table _).fits }) _ (omega arith))

pub returns-then-table-at-gt-TARGET_HIGH : goal.returns-then-table-at-gt-TARGET_HIGH
returns-then-table-at-gt-TARGET_HIGH c =
    sym (c.loop-i.invariant ∙ ties_target (record { more = omega arith; id-is = c.number_of-id.ensures.is; low_small = (c.type_inv.table _).fits }) _ (omega arith))

pub returns-then-table-at-gt-KIND_BYTES : goal.returns-then-table-at-gt-KIND_BYTES
returns-then-table-at-gt-KIND_BYTES c =
    sym (c.loop-i.invariant ∙ ties_kind (record { more = omega arith; id-is = c.number_of-id.ensures.is; low_small = (c.type_inv.table _).fits }) _ (omega arith))

pub loop-i-preserved : goal.loop-i-preserved
loop-i-preserved c =
    c.loop-i.invariant ∙ ties_step (record { more = omega arith; id-is = c.number_of-id.ensures.is; low_small = (c.type_inv.table _).fits }) _ (omega arith) (omega arith) (omega arith)

pub returns : goal.returns
returns c = sym (c.loop-i.invariant ∙ ties_done _ _ _ _ _ (omega arith))
