use mathlib.Core.Path.{sym, ap, ◌∙◌}
use mathlib.Core.Bool.{Bool, ◌&&◌}
use Prim.Native.Nat.{ℕ, ◌+◌, ◌*◌}
use lib.ListN.{drop}
use Rattle.utf16.proofs.Units.{Units}
use Rattle.csvtext.specs.Units.{waiting}
use Rattle.csvtext.proofs.UnitLaws.{data_from, data_all, data_unit, data_over}
use Rattle.csvtext.proofs.is_plain.Goals as goal

pub loop-unit-preserved : goal.loop-unit-preserved
loop-unit-preserved c =
    let U : Units c.args.bytes.now _ = record { are = c.as_chunks.ensures.front } in
    let l = c.loop-unit in
    let e = sym c.unit_is_data.ensures ∙ c.if-not-unit_is_data.false in
    let rest = drop (2 * (l.unit-index + 1)) c.args.bytes.now in
    l.invariant ∙ data_unit U l.unit-index l.high c.loop-unit-test.true c.from_le_bytes-u.ensures
    ∙ ap (λ (t : Bool). t && data_from (waiting c.from_le_bytes-u.result) rest) e
    ∙ sym (ap (λ (n : ℕ). data_from n rest) c.waiting-high.ensures)

pub returns-then-not-unit_is_data : goal.returns-then-not-unit_is_data
returns-then-not-unit_is_data c =
    let U : Units c.args.bytes.now _ = record { are = c.as_chunks.ensures.front } in
    let l = c.loop-unit in
    let e = sym c.unit_is_data.ensures ∙ c.if-not-unit_is_data.true in
    sym (sym (data_all _) ∙ l.invariant ∙ data_unit U l.unit-index l.high c.loop-unit-test.true c.from_le_bytes-u.ensures ∙ ap (λ (t : Bool). t && data_from (waiting c.from_le_bytes-u.result) (drop (2 * (l.unit-index + 1)) c.args.bytes.now)) e)

pub returns : goal.returns
returns c =
    let U : Units c.args.bytes.now _ = record { are = c.as_chunks.ensures.front } in
    let l = c.loop-unit in
    sym (sym (data_all _) ∙ l.invariant ∙ data_over U l.unit-index l.high c.loop-unit-test.false)
