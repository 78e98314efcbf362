use Rattle.std.proofs.Common.{arith, ap, refl}
use Rattle.matchlater.proofs.MatchLaws.{match-room}
use Rattle.later.specs.Write.{scanned_control}
use Rattle.later.proofs.Visits.{sweep_start, sweep_stop, sweep_over, sweep_on}
use Rattle.csvwalk.proofs.Walk.{controls_work}
use Rattle.csvlater.proofs.GroupRoom.{scanned-taken}
use Rattle.csvlater.proofs.scanned_left.Goals as goal

pub loop-a-init : goal.loop-a-init
loop-a-init c = sweep_start (omega (arith, c.requires.few)) c.find_match-a.ensures

pub find_match-limit-requires : goal.find_match-limit-requires
find_match-limit-requires c = omega (arith, match-room _ _ (c.loop-a.invariant.here c.loop-a-test.true))

pub loop-a-preserved-then-g-gt0 : goal.loop-a-preserved-then-g-gt0
loop-a-preserved-then-g-gt0 c =
    sweep_on c.loop-a.invariant c.loop-a-test.true c.find_match-limit.ensures (omega (arith, c.if-g-gt0.true, ap (λ g. g.count) c.group_left-g.ensures.group-is))
    (controls_work c.args.s.now (scanned_control c.args.s.now) c.loop-a.i) (scanned-taken c.group_left-g.ensures _ c.owner_size-owner.ensures)

pub loop-a-preserved : goal.loop-a-preserved
loop-a-preserved c = sweep_over c.loop-a.invariant c.loop-a-test.true c.find_match-limit.ensures (omega (arith, c.if-g-gt0.false, ap (λ g. g.count) c.group_left-g.ensures.group-is)) refl

pub returns : goal.returns
returns c = (sweep_stop c.loop-a.invariant ((controls_work c.args.s.now (scanned_control c.args.s.now) c.loop-a.i).none_left c.loop-a.left) c.loop-a-test.false).held.is
