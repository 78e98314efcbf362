use Rattle.std.proofs.Common.{◌≡◌}
use Rattle.matchlater.specs.Match.{none_of_lem}
use Rattle.matchlater.proofs.none_in_block.Given as goal

-- what i places say
abbrev pub invariant-loop-i : goal.invariant-loop-i
invariant-loop-i l = l.none ≡ none_of_lem l.i l.s l.at
