use Rattle.std.proofs.Common.{arith, ◌≡◌, ◌+◌, ◌-◌}
use Rattle.cursor.proofs.CursorLaws.{passing_next, passed_some}
use Rattle.cursorlater.proofs.StepLaws.{kept_top, left_top}
use Rattle.cursorlater.proofs.reported.Goals as goal

pub loop-left-preserved : goal.loop-left-preserved
loop-left-preserved c =
    let x = left_top _ _ _ c.in-Some.ensures in
    passing_next c.loop-left.invariant c.loop-left-test.true x.0 _ x.1 x.2

pub returns-in-None : goal.returns-in-None
returns-in-None c =
    let z : c.loop-left.left - 1 + 1 ≡ c.loop-left.left = omega arith in
    rw z (passed_some c.loop-left.invariant (kept_top _ _ c.in-None.ensures))
