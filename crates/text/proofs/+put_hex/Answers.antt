use Rattle.text.proofs.Chain.{nothing, ◌⨟◌}
use Rattle.text.proofs.Digits.{no-hex, more-hex}
use Rattle.text.proofs.+put_hex.Goals as goal

pub returns-then-k-eq0 : goal.returns-then-k-eq0
returns-then-k-eq0 t c = rw (no-hex c.args.k c.args.n c.if-k-eq0.true) nothing

pub returns-else-k-eq0 : goal.returns-else-k-eq0
returns-else-k-eq0 t c = rw (more-hex c.args.k c.args.n c.if-k-eq0.false) (c.put_hex-o.ensures ⨟ c.put_digit.ensures)
