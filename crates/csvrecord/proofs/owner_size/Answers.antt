use native.Mathlib.Omega.{arith}
use mathlib.Core.Path.{sym, ap}
use lib.ListN.{length}
use Rattle.csvrecord.specs.Parts.{owner_text}
use Rattle.csvrecord.specs.declared.Owner.{Owner}
use Rattle.csvrecord.proofs.RecordLaws.{owner-is}
use Rattle.csvrecord.proofs.owner_size.Goals as goal

pub returns-in-Object : goal.returns-in-Object
unfolding owner_text
returns-in-Object c = sym (ap (λ (o : Owner). length (owner_text o)) c.in-Object.is)

pub returns-in-Control : goal.returns-in-Control
returns-in-Control c =
    omega (arith, owner-is c.in-Control.is, c.decimal_size.ensures)
