-- Those found and those from `p` on are all of them.
use Rattle.std.proofs.Common.{◌≡◌, ◌+◌, ◌-◌, ◌≤◌, length}
use Rattle.typeinfo.specs.Entries.{reported_at}
use Rattle.typeinfo.proofs.count_entries.Given as goal

abbrev pub invariant-loop : goal.invariant-loop
invariant-loop l = record {
  inside : l.p ≤ length l.s;
  few : l.found ≤ l.counter;
  counts : l.found + length (reported_at l.s l.p (l.count - l.counter)) ≡ length (reported_at l.s 32 l.count);
}
