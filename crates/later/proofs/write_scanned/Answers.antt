use Rattle.std.proofs.Common.{arith}
use Rattle.matchlater.proofs.MatchLaws.{match-room}
use Rattle.later.proofs.WriteNodeLaws.{sweeping_start, sweeping_group, sweeping_row, sweeping_adds, sweeping_same, sweeping_more, sweeping_done}
use Rattle.later.proofs.write_scanned.Goals as goal

pub loop-a-init : goal.loop-a-init
loop-a-init c = sweeping_start c.requires c.find_match-a.ensures

pub find_match-limit-requires : goal.find_match-limit-requires
find_match-limit-requires c = omega (arith, match-room _ _ (c.loop-a.invariant.here c.loop-a-test.true))

pub write_group-w-requires : goal.write_group-w-requires
write_group-w-requires c = sweeping_group c.loop-a.invariant c.loop-a-test.true c.find_match-limit.ensures

pub overflow_cast-w : goal.overflow_cast-w
overflow_cast-w c = omega (arith, sweeping_adds c.loop-a.invariant c.loop-a-test.true c.find_match-limit.ensures c.write_group-w.ensures c.if-w-gt0.true)

pub put_control-requires : goal.put_control-requires
put_control-requires c = sweeping_row c.loop-a.invariant c.loop-a-test.true c.find_match-limit.ensures c.write_group-w.ensures c.if-w-gt0.true

pub loop-a-preserved-then-w-gt0 : goal.loop-a-preserved-then-w-gt0
loop-a-preserved-then-w-gt0 c =
    sweeping_more c.loop-a.invariant c.loop-a-test.true c.find_match-limit.ensures c.write_group-w.ensures c.if-w-gt0.true
    c.get_property.ensures c.text_name.ensures c.control_row-row.ensures c.put_control.ensures

pub loop-a-preserved : goal.loop-a-preserved
loop-a-preserved c = sweeping_same c.loop-a.invariant c.loop-a-test.true c.find_match-limit.ensures c.write_group-w.ensures c.if-w-gt0.false

pub returns : goal.returns
returns c = sweeping_done c.loop-a.invariant c.loop-a-test.false
