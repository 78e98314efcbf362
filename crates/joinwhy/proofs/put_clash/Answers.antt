use mathlib.Core.Path.{sym, ap, ◌∙◌}
use Rattle.text.proofs.Chain.{nothing}
use Rattle.succession.specs.Found.{as_lack}
use Rattle.joinwhy.proofs.Heads.{one_bad, other_bad}
use Rattle.joinwhy.proofs.Clashes.{first-formed}
use Rattle.joinwhy.proofs.put_clash.Goals as goal

pub returns-then-not-well_formed : goal.returns-then-not-well_formed
returns-then-not-well_formed c =
    rw (one_bad c.args.one.now c.args.other.now (sym c.well_formed-2.ensures ∙ c.if-not-well_formed.true)) nothing

pub returns-then-not-well_formed-2 : goal.returns-then-not-well_formed-2
returns-then-not-well_formed-2 c =
    rw (other_bad c.args.one.now c.args.other.now (sym c.well_formed-3.ensures ∙ c.if-not-well_formed-2.true)) nothing

pub returns : goal.returns
returns c =
    let formed = first-formed c.args.one.now c.args.other.now (sym c.well_formed-2.ensures ∙ c.if-not-well_formed.false) (sym c.well_formed-3.ensures ∙ c.if-not-well_formed-2.false) in
    rw (← (c.first_other-clash.ensures ∙ sym (ap as_lack formed))) c.put_lack.ensures
