use Rattle.std.proofs.Common.{arith, ap}
use Rattle.matchlater.proofs.MatchLaws.{match-room}
use Rattle.countlater.proofs.ScanLaws.{scanning_start, group-few, scanning_more, scanning_same, scanning_done}
use Rattle.countlater.proofs.scan_control_sections.Goals as goal

pub loop-a-init : goal.loop-a-init
loop-a-init c = scanning_start c.find_match-a.ensures

pub find_match-b-requires : goal.find_match-b-requires
find_match-b-requires c = omega (arith, match-room _ _ (c.loop-a.invariant.here c.loop-a-test.true))

pub overflow_add-theirs : goal.overflow_add-theirs
overflow_add-theirs c = omega (arith, c.loop-a.invariant.few, group-few c.loop-a.invariant c.loop-a-test.true c.find_match-b.ensures (ap (λ g. g.count) c.parse_group-n.ensures))

pub loop-a-preserved-then-n-gt0 : goal.loop-a-preserved-then-n-gt0
loop-a-preserved-then-n-gt0 c = scanning_more c.loop-a.invariant c.loop-a-test.true c.find_match-b.ensures (ap (λ g. g.count) c.parse_group-n.ensures) c.if-n-gt0.true

pub loop-a-preserved : goal.loop-a-preserved
loop-a-preserved c = scanning_same c.loop-a.invariant c.loop-a-test.true c.find_match-b.ensures (ap (λ g. g.count) c.parse_group-n.ensures) c.if-n-gt0.false

pub returns : goal.returns
returns c = scanning_done c.loop-a.invariant c.loop-a-test.false
