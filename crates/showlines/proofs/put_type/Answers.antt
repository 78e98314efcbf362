use Rattle.std.proofs.Common.{refl, arith}
use Rattle.text.proofs.Chain.{wrote_as}
use Rattle.showlines.proofs.LineLaws.{type-unnamed, type-named}
use Rattle.showlines.proofs.put_type.Goals as goal

pub returns-then-code-gt-LAST_NAMED : goal.returns-then-code-gt-LAST_NAMED
returns-then-code-gt-LAST_NAMED c = wrote_as c.put_type_or_code.ensures (type-unnamed c.args.code (omega arith) refl)

pub returns : goal.returns
returns c = wrote_as c.put_type_or_code-2.ensures (type-named c.args.code c.type_name_in.ensures)
