use Rattle.std.proofs.Common.{◌+◌, ◌*◌, arith}
use Rattle.coderows.proofs.ScopeList.{filled_none, filled_next}
use Rattle.coderows.proofs.list_scopes.Goals as goal

pub loop-i-init : goal.loop-i-init
loop-i-init c = filled_none _ _ _ _ c.requires

pub loop-i-preserved : goal.loop-i-preserved
loop-i-preserved c =
    filled_next c.loop-i.invariant (c.byte_number-in-loop-i.result * 65536 + c.u16_number.result) c.u16_number-count.result (omega arith) c.u16_number-count.ensures.is (omega arith) c.u16_number-count.ensures.small
