use mathlib.Core.List.{◌++◌}
use Rattle.rules.specs.Lists.{text}
use Rattle.rules.specs.Digits.{hex}
use Rattle.text.proofs.Chain.{◌⨟◌}
use Rattle.text.proofs.Arms.{past, last_arm}
use Rattle.tabletext.specs.Text.{scope_name}
use Rattle.tabletext.proofs.Lines.{plain_names}
use Rattle.tabletext.proofs.put_scope_name.Goals as goal

pub returns-in_default : goal.returns-in_default
unfolding scope_name
returns-in_default c =
    last_arm _ plain_names (text "entry " ++ hex 4 c.args.code) (past 2 _ c.in_default.in_default-own.rest) (c.put_text-p.ensures ⨟ c.put_hex.ensures)
