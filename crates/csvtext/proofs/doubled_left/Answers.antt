use mathlib.Core.Path.{ap, ◌∙◌}
use Prim.Native.Nat.{ℕ, ◌+◌, ◌*◌}
use native.Mathlib.Omega.{arith}
use lib.ListN.{length, drop, length-append}
use Rattle.utf16.proofs.Units.{Units}
use Rattle.csvtext.specs.Units.{doubled_of, unit_text, waiting}
use Rattle.csvtext.proofs.Spelling.{spelled_unit, spelled_over}
use Rattle.csvtext.proofs.UnitLaws.{text_from, text-all}
use Rattle.csvtext.proofs.doubled_left.Goals as goal

pub loop-unit-preserved : goal.loop-unit-preserved
loop-unit-preserved c =
    let U : Units c.args.bytes.now _ = record { are = c.as_chunks.ensures.front } in
    let l = c.loop-unit in
    let u = c.from_le_bytes-u.result in
    let rest = drop (2 * (l.unit-index + 1)) c.args.bytes.now in
    let whole = ap length (spelled_unit U l.unit-index c.loop-unit-test.true c.from_le_bytes-u.ensures doubled_of l.high) ∙ length-append (unit_text l.high u) (text_from (waiting u) rest) in
    let next = ap (λ (n : ℕ). length (text_from n rest)) c.waiting-high.ensures in
    omega (arith, l.invariant, c.saturating_sub-left.ensures, c.unit_size.ensures, whole, next)

pub returns : goal.returns
returns c =
    let U : Units c.args.bytes.now _ = record { are = c.as_chunks.ensures.front } in
    let l = c.loop-unit in
    omega (arith, l.invariant, ap length (spelled_over U l.unit-index c.loop-unit-test.false doubled_of l.high), ap length (text-all c.args.bytes.now))
