use Rattle.std.proofs.Common.{◌≡◌, ◌≤◌, ◌+◌, ◌-◌, List, length, drop, ℕ}
use Rattle.tablelines.specs.Items.{items_of}
use Rattle.tablemaking.specs.Judged.{nothing_seen, judge_from}
use Rattle.tablemaking.specs.Made.{longest_text}
use Rattle.tablemaking.specs.declared.Seen.{Seen}
use Rattle.tablemaking.proofs.judge.Given as goal

-- the lines that are left, from `at` on, decide
pub record Left (s : List ℕ) (seen : Seen) (lines at : ℕ) : Type 0 where
  pub decide : judge_from nothing_seen 0 (items_of s) ≡ judge_from seen lines (items_of (drop at s))
  pub few : seen.rows ≤ lines
  pub counted : lines ≤ at
  pub within : at ≤ length s + 1
  pub short : length s ≤ longest_text

abbrev pub invariant-loop-at : goal.invariant-loop-at
invariant-loop-at l = Left l.text l.seen l.lines l.at

abbrev pub decreases-loop-at : goal.decreases-loop-at
decreases-loop-at l = length l.text + 1 - l.at
