use Rattle.std.proofs.Common.{◌≡◌, ◌≤◌, ◌+◌, ◌-◌, List, length, drop, ℕ}
use Rattle.tablelines.specs.Items.{items_of}
use Rattle.tablemaking.specs.Made.{rows_of, longest_text}
use Rattle.tablemaking.proofs.rows_from.Given as goal

-- the rows that are left, from `place` on, are to be counted
pub record Left (s : List ℕ) (from rows place : ℕ) : Type 0 where
  pub total : length (rows_of (items_of (drop from s))) ≡ rows + length (rows_of (items_of (drop place s)))
  pub counted : rows ≤ place
  pub short : length s ≤ longest_text

abbrev pub invariant-loop-place : goal.invariant-loop-place
invariant-loop-place l = Left l.text l.from l.rows l.place

abbrev pub decreases-loop-place : goal.decreases-loop-place
decreases-loop-place l = length l.text + 1 - l.place
