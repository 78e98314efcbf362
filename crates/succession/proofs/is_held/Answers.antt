use borrow.Author.Tests.{eq-eqb, ne_eqb}
use Rattle.std.proofs.Common.{refl}
use Rattle.succession.specs.Found.{is_held}
use Rattle.succession.proofs.is_held.Goals as goal

pub returns-then-tie-row : goal.returns-then-tie-row
unfolding is_held
returns-then-tie-row c = rw (c.in-Some.is, eq-eqb _ _ c.if-tie-row.true) refl

pub returns-else-tie-row : goal.returns-else-tie-row
unfolding is_held
returns-else-tie-row c = rw (c.in-Some.is, ne_eqb _ _ c.if-tie-row.false) refl

pub returns-in-None : goal.returns-in-None
unfolding is_held
returns-in-None c = rw c.in-None.is refl
