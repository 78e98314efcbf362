use borrow.Author.Tests.{lt-ltb, le-ltb, lt-leb}
use Rattle.csvtext.specs.Units.{is_letter}
use Rattle.csvtext.proofs.is_letter.Goals as goal

pub returns-then-u-ge-FIRST_LETTER : goal.returns-then-u-ge-FIRST_LETTER
unfolding is_letter
returns-then-u-ge-FIRST_LETTER c = rw (le-ltb c.args.u 0x2D c.if-u-ge-FIRST_LETTER.true)

pub returns-else-u-ge-FIRST_LETTER : goal.returns-else-u-ge-FIRST_LETTER
unfolding is_letter
returns-else-u-ge-FIRST_LETTER c = rw (lt-ltb c.args.u 0x2D c.if-u-ge-FIRST_LETTER.false, lt-leb 0x2D c.args.u c.if-u-ge-FIRST_LETTER.false)
