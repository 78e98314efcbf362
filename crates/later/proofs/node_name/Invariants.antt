use Rattle.std.proofs.Common.{◌≡◌}
use Rattle.later.proofs.NameLaws.{name_from}
use Rattle.later.proofs.node_name.Given as goal

-- the name from here on is the node's
abbrev pub invariant-loop-i : goal.invariant-loop-i
invariant-loop-i l = name_from l.rows l.end l.i ≡ name_from l.rows l.end l.first
