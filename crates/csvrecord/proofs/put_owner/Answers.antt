use mathlib.Core.Path.{sym, ap}
use Rattle.text.proofs.Chain.{◌⨟◌, wrote_as}
use Rattle.csvrecord.specs.Parts.{owner_text}
use Rattle.csvrecord.proofs.put_owner.Goals as goal

pub returns-in-Object : goal.returns-in-Object
unfolding owner_text
returns-in-Object c =
    wrote_as c.put_text.ensures (sym (ap owner_text c.in-Object.is))

pub returns-in-Control : goal.returns-in-Control
unfolding owner_text
returns-in-Control c =
    wrote_as (c.put_decimal-p.ensures ⨟ c.put_byte-p.ensures ⨟ c.put_hex-p.ensures ⨟ c.put_byte.ensures) (sym (ap owner_text c.in-Control.is))
