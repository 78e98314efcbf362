use mathlib.Core.Path.{sym, ap, ◌∙◌}
use mathlib.Core.Bool.{Bool}
use Prim.Native.Nat.{◌+◌, ◌*◌}
use native.Mathlib.Omega.{arith}
use lib.ListN.{length, drop}
use borrow.Author.Tests.{eqb-true, false-eqb}
use Rattle.std.proofs.lemmas.Slice.{between_to_end}
use Rattle.rules.specs.Utf16.{paired, same, is_utf16_lem}
use Rattle.utf16.proofs.Units.{agree, differ, units_from, unit_goes, unit_stops, many_units, all_read, left_over}
use Rattle.utf16.proofs.is_utf16.Goals as goal

pub loop-unit-preserved : goal.loop-unit-preserved
loop-unit-preserved c =
    let l = c.loop-unit in
    let s = c.args.bytes.now in
    let i = c.past_plain-start.result in
    let units = units_from s i c.as_chunks.ensures.front in
    l.invariant
    ∙ unit_goes units l.unit-index c.loop-unit-test.true l.pending _ c.from_le_bytes-u.ensures (sym c.is_low.ensures ∙ agree _ _ c.if-is_low-pending.false)
    ∙ ap (λ (t : Bool). paired t (drop (2 * (l.unit-index + 1)) (drop i s))) (sym c.is_high-pending.ensures)

pub returns-then-is_low-pending : goal.returns-then-is_low-pending
unfolding is_utf16_lem
returns-then-is_low-pending c =
    let l = c.loop-unit in
    let units = units_from c.args.bytes.now c.past_plain-start.result c.as_chunks.ensures.front in
    sym (l.invariant
    ∙ unit_stops units l.unit-index c.loop-unit-test.true l.pending _ c.from_le_bytes-u.ensures (ap (same l.pending) (sym c.is_low.ensures) ∙ differ _ _ c.if-is_low-pending.true))

pub returns-then-is_empty : goal.returns-then-is_empty
unfolding is_utf16_lem
returns-then-is_empty c =
    let l = c.loop-unit in
    let s = c.args.bytes.now in
    let i = c.past_plain-start.result in
    let m = many_units (units_from s i c.as_chunks.ensures.front) in
    let none = eqb-true _ _ (sym c.is_empty.ensures ∙ c.if-is_empty.true) in
    sym (l.invariant
    ∙ all_read (drop i s) (2 * l.unit-index) l.pending (omega arith) (omega arith) (omega (arith, c.as_chunks.ensures.back_len, none, ap length (between_to_end s i (length s) (omega arith)))))

pub returns-else-is_empty : goal.returns-else-is_empty
unfolding is_utf16_lem
returns-else-is_empty c =
    let l = c.loop-unit in
    let s = c.args.bytes.now in
    let i = c.past_plain-start.result in
    let m = many_units (units_from s i c.as_chunks.ensures.front) in
    let some = false-eqb _ _ (sym c.if-is_empty.false ∙ c.is_empty.ensures) in
    c.if-is_empty.false
    ∙ sym (l.invariant
    ∙ left_over (drop i s) (2 * l.unit-index) l.pending (omega arith) (omega arith) (omega (arith, c.as_chunks.ensures.back_len, some, ap length (between_to_end s i (length s) (omega arith)))))
