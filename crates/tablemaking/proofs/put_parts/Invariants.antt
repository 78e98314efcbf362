use Rattle.std.proofs.Common.{◌+◌, ◌-◌, length}
use Rattle.tablemaking.specs.Made.{parts_said}
use Rattle.tablemaking.proofs.Parts.{Left}
use Rattle.tablemaking.proofs.put_parts.Given as goal

abbrev pub invariant-loop-place : goal.invariant-loop-place
invariant-loop-place l = Left (parts_said l.bodies) l.text l.initial.out l.at l.out l.p l.place

abbrev pub decreases-loop-place : goal.decreases-loop-place
decreases-loop-place l = length l.text + 1 - l.place
