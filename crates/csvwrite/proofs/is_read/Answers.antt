use native.Mathlib.Omega.{arith}
use Rattle.csvwrite.specs.Sheet.{is_read_lem}
use Rattle.csvwrite.proofs.RoomLaws.{read-last}
use Rattle.csvwrite.proofs.is_read.Goals as goal

pub returns-then-number-eq-READ : goal.returns-then-number-eq-READ
unfolding is_read_lem
returns-then-number-eq-READ c = rw c.if-number-eq-READ.true

pub returns-then-number-eq-MORE_CONTROLS : goal.returns-then-number-eq-MORE_CONTROLS
unfolding is_read_lem
returns-then-number-eq-MORE_CONTROLS c = rw c.if-number-eq-MORE_CONTROLS.true

pub returns : goal.returns
returns c = read-last _ (λ e. omega arith) (λ e. omega arith)
