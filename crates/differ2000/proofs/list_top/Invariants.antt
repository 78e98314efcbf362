use Rattle.cursor.proofs.LeftLaws.{left, how_many}
use Rattle.cursor2000.specs.Steps.{step_at}
use Rattle.differ2000.specs.Listing.{listing, SameTables}
use Rattle.differ2000.proofs.Walking.{Going}
use Rattle.differ2000.proofs.list_top.Given as goal

-- what is left of the entries, in the tables that were lent
abbrev pub invariant-loop-c : goal.invariant-loop-c
invariant-loop-c l = record {
  going : Going l.initial.older.table.now l.initial.newer.table.now l.s (left (step_at l.s) 0 l.initial.stack l.initial.c)
      (listing l.initial.rows l.initial.listed l.initial.property) l.stack l.c l.control (listing l.rows l.listed l.property);
  same : SameTables l.initial.older l.initial.newer l.older l.newer;
}

abbrev pub decreases-loop-c : goal.decreases-loop-c
decreases-loop-c l = how_many (left (step_at l.s) l.control l.stack l.c)
