use Rattle.cursor.proofs.CursorLaws.{skipping_next}
use Rattle.cursor2000.proofs.reported.Goals as goal

pub loop-left-preserved : goal.loop-left-preserved
loop-left-preserved c =
    let x = c.skip.ensures.over _ c.in-Some.is in
    skipping_next c.loop-left.invariant c.loop-left-test.true x.0 _ x.1 x.2
