-- The rows from `p` on, put from row `at` on, are all that is left to write.
use Rattle.std.proofs.Common.{◌≡◌, ◌+◌, ◌-◌, ◌≤◌, length, map}
use Rattle.rules.specs.Rows.{type_info_width}
use Rattle.rules.specs.TypeInfo.{type_info_row}
use Rattle.rows.specs.Put.{put}
use Rattle.typeinfo.specs.Entries.{reported_at}
use Rattle.typeinfo.proofs.write_entries.Given as goal

abbrev pub invariant-loop : goal.invariant-loop
invariant-loop l = record {
  inside : l.p ≤ length l.s;
  counts : l.at + length (reported_at l.s l.p (l.count - l.counter)) ≡ length (reported_at l.s 32 l.count);
  words : put type_info_width l.rows l.at (map type_info_row (reported_at l.s l.p (l.count - l.counter))) ≡ put type_info_width l.fn.rows 0 (map type_info_row (reported_at l.s 32 l.count));
}
