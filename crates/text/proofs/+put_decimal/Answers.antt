use mathlib.Core.Path.{sym}
use Rattle.text.proofs.Chain.{◌⨟◌, wrote_as}
use Rattle.text.proofs.Digits.{more-four}
use Rattle.text.proofs.+put_decimal.Goals as goal

pub returns-else-n-lt10000 : goal.returns-else-n-lt10000
returns-else-n-lt10000 t c =
    wrote_as (c.put_decimal-o.ensures ⨟ c.put_thousands.ensures) (sym (more-four c.args.n c.if-n-lt10000.false))
