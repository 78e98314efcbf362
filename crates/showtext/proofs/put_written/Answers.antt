use mathlib.Core.Path.{sym, ◌∙◌}
use Rattle.text.proofs.Chain.{◌⨟◌, wrote_as}
use Rattle.showtext.proofs.ShownLaws.{hidden, plain}
use Rattle.showtext.proofs.put_written.Goals as goal

pub returns-then-is_hidden : goal.returns-then-is_hidden
returns-then-is_hidden c =
    wrote_as (c.put_text-p.ensures ⨟ c.put_hex.ensures) (sym (hidden c.args.c (sym c.is_hidden.ensures ∙ c.if-is_hidden.true)))

pub returns : goal.returns
returns c =
    wrote_as c.put_character.ensures (sym (plain c.args.c (sym c.is_hidden.ensures ∙ c.if-is_hidden.false)))
