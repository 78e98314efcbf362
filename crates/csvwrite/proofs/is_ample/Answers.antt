use mathlib.Core.Path.{sym}
use borrow.Author.Tests.{leb-true}
use Rattle.csvwrite.specs.Sheet.{ample}
use Rattle.csvwrite.proofs.is_ample.Goals as goal

pub returns : goal.returns
unfolding ample
returns c e = rw (sym c.countable.ensures) (leb-true _ _ e)
