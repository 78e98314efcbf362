-- What is seen of a count.
use Rattle.rules.specs.declared.Answer.{Answer}
use Rattle.rules.specs.declared.Totals.{Totals}
use Rattle.rules.specs.declared.Totalled.{Totalled}

-- all that a caller sees of a call: its result, and the lent record at exit
abbrev pub exited : Answer → Totals → Totalled
exited a totals = record { answer = a; totals = totals }
