use native.Mathlib.Omega.{arith}
use borrow.Author.Tests.{lt-leb, le-leb}
use Rattle.listing.specs.InfoLine.{is_shown}
use Rattle.listing.proofs.is_shown.Goals as goal

pub returns-then-b-lt32 : goal.returns-then-b-lt32
unfolding is_shown
returns-then-b-lt32 c = simp (lt-leb 0x20 c.args.b (omega arith))

pub returns-then-b-gt126 : goal.returns-then-b-gt126
unfolding is_shown
returns-then-b-gt126 c = let a = c.args in simp (le-leb 0x20 a.b (omega arith), lt-leb a.b 0x7E (omega arith))

pub returns : goal.returns
unfolding is_shown
returns c = let a = c.args in simp (le-leb 0x20 a.b (omega arith), le-leb a.b 0x7E (omega arith))
