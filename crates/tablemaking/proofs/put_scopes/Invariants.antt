use Rattle.std.proofs.Common.{◌+◌, ◌-◌, List, length, drop, ℕ}
use Rattle.tablelines.specs.Items.{items_of}
use Rattle.tablemaking.specs.Made.{scopes_said, FewRows}
use Rattle.tablemaking.proofs.Parts.{Left}
use Rattle.tablemaking.proofs.put_scopes.Given as goal

-- and each scope that is left has few rows
pub record ScopesLeft (s old : List ℕ) (at : ℕ) (now : List ℕ) (p place : ℕ) : Type 0 where
  pub lines : Left scopes_said s old at now p place
  pub few : FewRows (items_of (drop place s))

abbrev pub invariant-loop-place : goal.invariant-loop-place
invariant-loop-place l = ScopesLeft l.text l.initial.out l.at l.out l.p l.place

abbrev pub decreases-loop-place : goal.decreases-loop-place
decreases-loop-place l = length l.text + 1 - l.place
