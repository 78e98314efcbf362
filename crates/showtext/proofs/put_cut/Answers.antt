use native.Mathlib.Omega.{arith}
use mathlib.Core.Path.{sym}
use Rattle.text.proofs.Chain.{nothing, wrote_as}
use Rattle.showtext.proofs.ShownLaws.{is_cut, is_whole}
use Rattle.showtext.proofs.put_cut.Goals as goal

pub returns-then-size-gt-MOST_SHOWN : goal.returns-then-size-gt-MOST_SHOWN
returns-then-size-gt-MOST_SHOWN c =
    wrote_as c.put_text.ensures (sym (is_cut c.args.size (omega arith)))

pub returns : goal.returns
returns c =
    wrote_as nothing (sym (is_whole c.args.size (omega arith)))
