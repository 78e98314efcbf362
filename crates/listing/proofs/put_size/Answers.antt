use native.Mathlib.Omega.{arith}
use Rattle.text.proofs.Chain.{◌⨟◌}
use Rattle.listing.proofs.InfoName.{whole-size, cut-size}
use Rattle.listing.proofs.put_size.Goals as goal

pub returns-then-cut-eq0 : goal.returns-then-cut-eq0
returns-then-cut-eq0 c =
    rw (whole-size c.args.size c.args.cut (omega arith)) c.put_decimal-p.ensures

pub returns : goal.returns
returns c =
    rw (cut-size c.args.size c.args.cut c.if-cut-eq0.false) (c.put_decimal-p.ensures ⨟ c.put_byte.ensures)
