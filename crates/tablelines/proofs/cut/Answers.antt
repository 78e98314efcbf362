use Rattle.std.proofs.Common.{arith, below_more}
use Rattle.tablelines.proofs.WordLaws.{cut_at}
use Rattle.tablelines.proofs.cut.Goals as goal

pub returns-then-stops : goal.returns-then-stops
returns-then-stops g c =
    let e = c.split_at.ensures in
    cut_at e.front e.back (omega arith) c.loop-at.invariant (λ h. c.if-stops.ensures)

pub loop-at-preserved : goal.loop-at-preserved
loop-at-preserved g c = below_more _ _ c.loop-at.invariant c.if-stops.ensures

pub returns : goal.returns
returns g c =
    let e = c.split_at-2.ensures in
    cut_at e.front e.back (omega arith) (λ k l. c.loop-at.invariant k (omega arith)) (λ h. absurd (omega arith))
