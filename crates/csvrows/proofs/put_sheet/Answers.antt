use native.Mathlib.Omega.{arith}
use Rattle.text.proofs.Chain.{◌⨟◌}
use Rattle.csvrows.specs.Rows.{slices_text}
use Rattle.csvrows.proofs.Steps.{object_short}
use Rattle.csvrows.proofs.put_sheet.Goals as goal

pub put_owned-p-requires : goal.put_owned-p-requires
put_owned-p-requires c =
    record { ready = record { lent = c.requires.lent; few = omega (arith, c.requires.few) }; short = object_short }

pub put_controls-requires : goal.put_controls-requires
put_controls-requires c =
    c.requires

pub returns : goal.returns
unfolding slices_text
returns c =
    c.put_header-p.ensures ⨟ c.put_owned-p.ensures ⨟ c.put_controls.ensures
