use native.Mathlib.Nat.{add-zero}
use borrow.Author.Tests.{ne_eqb}
use Rattle.rules.specs.Lists.{concat}
use Rattle.csvread.specs.Places.{last_of}
use Rattle.csvread.proofs.last.Goals as goal

pub returns-then-p-eq-LAST_FIELD : goal.returns-then-p-eq-LAST_FIELD
unfolding last_of concat
returns-then-p-eq-LAST_FIELD c = let e = c.if-p-eq-LAST_FIELD.true in rw (e, add-zero)

pub returns : goal.returns
unfolding last_of
returns c = rw (ne_eqb _ 4 c.if-p-eq-LAST_FIELD.false)
