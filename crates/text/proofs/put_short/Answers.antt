use native.Mathlib.Omega.{arith}
use mathlib.Core.Path.{sym}
use Rattle.text.proofs.Chain.{◌⨟◌, wrote_as}
use Rattle.text.proofs.Digits.{one-digit, two_digits, three_digits, four_digits_lem}
use Rattle.text.proofs.put_short.Goals as goal

pub returns-then-n-lt10 : goal.returns-then-n-lt10
returns-then-n-lt10 c =
    wrote_as c.put_digit.ensures (sym (one-digit c.args.n (omega arith)))

pub returns-then-n-lt100 : goal.returns-then-n-lt100
returns-then-n-lt100 c =
    wrote_as c.put_tens.ensures (sym (two_digits c.args.n (omega arith) (omega arith)))

pub returns-then-n-lt1000 : goal.returns-then-n-lt1000
returns-then-n-lt1000 c =
    wrote_as (c.put_digit-p.ensures ⨟ c.put_tens-then-n-lt1000.ensures) (sym (three_digits c.args.n (omega arith) (omega arith)))

pub returns : goal.returns
returns c =
    wrote_as c.put_thousands.ensures (sym (four_digits_lem c.args.n (omega arith) c.requires))
