use Rattle.std.proofs.Common.{sym, arith}
use Rattle.text.proofs.Chain.{◌⨟◌, wrote_as}
use Rattle.showlines.proofs.LineLaws.{no_name, a_name}
use Rattle.showlines.proofs.put_type_or_code.Goals as goal

pub returns-then-name-eq0 : goal.returns-then-name-eq0
returns-then-name-eq0 c = wrote_as (c.put_text-p.ensures ⨟ c.put_hex.ensures) (sym (no_name c.args.name.now c.args.code (omega arith)))

pub returns-else-name-eq0 : goal.returns-else-name-eq0
returns-else-name-eq0 c = wrote_as c.put_text.ensures (sym (a_name c.args.name.now c.args.code (λ e. omega arith)))
