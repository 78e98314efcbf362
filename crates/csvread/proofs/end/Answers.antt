use mathlib.Core.Path.{sym, ap, ◌∙◌}
use borrow.Author.Rules.{rules}
use Rattle.rules.specs.Csv.{at_end}
use Rattle.csvread.specs.Places.{counted_as, end_of, last_of}
use Rattle.csvread.proofs.CountLaws.{end-after-line, end_in_field}
use Rattle.csvread.proofs.end.Goals as goal

pub returns-then-p-eq0 : goal.returns-then-p-eq0
returns-then-p-eq0 c = sym (ap counted_as (end-after-line _ c.in-Start.is c.if-p-eq0.true))

pub returns-else-p-eq0 : goal.returns-else-p-eq0
returns-else-p-eq0 c = c.last.ensures ∙ sym (ap counted_as (end_in_field _ c.in-Start.is c.if-p-eq0.false))

pub returns-in-Plain : goal.returns-in-Plain
unfolding end_of last_of at_end
returns-in-Plain c = rw c.in-Plain.is c.last-in-Plain.ensures

pub returns-in-Quoted : goal.returns-in-Quoted
unfolding end_of at_end
returns-in-Quoted c = search rules

pub returns-in-Closing : goal.returns-in-Closing
unfolding end_of last_of at_end
returns-in-Closing c = rw c.in-Closing.is c.last-in-Closing.ensures

pub returns-in-Returned : goal.returns-in-Returned
unfolding end_of at_end
returns-in-Returned c = search rules
