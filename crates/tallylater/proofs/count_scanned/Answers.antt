use Rattle.std.proofs.Common.{arith, ap, false, refl}
use Rattle.matchlater.proofs.MatchLaws.{match-room}
use Rattle.later.specs.Write.{scanned_control}
use Rattle.later.proofs.Visits.{grouped_none, sweep_start, sweep_stop, sweep_over, sweep_on}
use Rattle.tally.proofs.BumpLaws.{properties-none, controls-none}
use Rattle.tally.proofs.Walk.{controls-counted}
use Rattle.tallylater.proofs.GroupLaws.{scanned-counted}
use Rattle.tallylater.proofs.count_scanned.Goals as goal

pub loop-a-init : goal.loop-a-init
loop-a-init c = sweep_start refl c.find_match-a.ensures

pub find_match-limit-requires : goal.find_match-limit-requires
find_match-limit-requires c = omega (arith, match-room _ _ (c.loop-a.invariant.here c.loop-a-test.true))

pub loop-a-preserved-then-g-gt0 : goal.loop-a-preserved-then-g-gt0
loop-a-preserved-then-g-gt0 c =
    sweep_on c.loop-a.invariant c.loop-a-test.true c.find_match-limit.ensures (omega (arith, c.if-g-gt0.true, ap (λ g. g.count) c.count_group-g.ensures.group-is))
    (controls-counted false (scanned_control _) c.args.words.now) (scanned-counted c.count_group-g.ensures c.count_type.ensures)

pub loop-a-preserved : goal.loop-a-preserved
loop-a-preserved c =
    sweep_over c.loop-a.invariant c.loop-a-test.true c.find_match-limit.ensures (omega (arith, c.if-g-gt0.false, ap (λ g. g.count) c.count_group-g.ensures.group-is))
    (grouped_none c.count_group-g.ensures (properties-none false _) c.if-g-gt0.false)

pub returns : goal.returns
returns c = record { is = (sweep_stop c.loop-a.invariant (controls-none false _) c.loop-a-test.false).held.is }
