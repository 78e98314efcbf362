use native.Mathlib.Omega.{arith}
use mathlib.Core.Path.{sym}
use Rattle.text.proofs.Chain.{wrote_as}
use Rattle.csvrecord.proofs.RecordLaws.{no_name, a_name}
use Rattle.csvrecord.proofs.put_name_or_id.Goals as goal

pub returns-then-name-eq0 : goal.returns-then-name-eq0
returns-then-name-eq0 c =
    wrote_as c.put_hex.ensures (sym (no_name c.args.name.now c.args.id (omega arith)))

pub returns-else-name-eq0 : goal.returns-else-name-eq0
returns-else-name-eq0 c =
    wrote_as c.put_text.ensures (sym (a_name c.args.name.now c.args.id (λ e. omega arith)))
