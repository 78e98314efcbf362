use Rattle.std.proofs.Common.{◌≡◌, length, ◌-◌}
use Rattle.differ2000.specs.Listing.{listing_at}
use Rattle.differ2000.proofs.RunLaws.{Listed}
use Rattle.differ2000.proofs.list_run.Given as goal

-- what is left of the run, for the same control
abbrev pub invariant-loop-p : goal.invariant-loop-p
invariant-loop-p l = record {
  listed : Listed l.older l.newer l.scope l.s l.here.control l.fn.from.at (listing_at l.initial.rows l.fn.from) l.here.at (listing_at l.rows l.here);
  same : l.here.control ≡ l.fn.from.control;
}

abbrev pub decreases-loop-p : goal.decreases-loop-p
decreases-loop-p l = length l.s - l.here.at
