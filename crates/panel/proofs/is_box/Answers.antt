-- Six types are those of boxes.
use Rattle.std.proofs.Common.{rules}
use Rattle.panel.proofs.TypeLaws.{text_box, combo_box, no_box}
use Rattle.panel.proofs.is_box.Goals as goal

pub returns-in-109 : goal.returns-in-109
returns-in-109 c = text_box c.args.type_code c.in-109.is

pub returns-in-111 : goal.returns-in-111
returns-in-111 c = combo_box c.args.type_code c.in-111.is

pub returns-in_default : goal.returns-in_default
returns-in_default c = no_box c.args.type_code (search rules) (search rules)
