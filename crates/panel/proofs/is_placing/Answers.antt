-- A place by its id, its mark and its sign.
use Rattle.rows.proofs.GetLaws.{property-shown}
use Rattle.std.proofs.Common.{◌∙◌, ap, rules}
use borrow.Author.Tests.{ne_eqb}
use Rattle.rules.specs.Panel.{is_placing}
use Rattle.panel.proofs.PropertyLaws.{at_place, not_short, by-low, no_place}
use Rattle.panel.proofs.is_placing.Goals as goal

pub returns-in-54 : goal.returns-in-54
returns-in-54 c = at_place c.get_property-p.result c.in-54.is ∙ ap is_placing (property-shown c.get_property-p.ensures)

pub returns-then-p-eq-MARK_SHORT : goal.returns-then-p-eq-MARK_SHORT
returns-then-p-eq-MARK_SHORT c = by-low c.get_property-p.result c.in-150.is c.if-p-eq-MARK_SHORT.true ∙ ap is_placing (property-shown c.get_property-p.ensures)

pub returns-else-p-eq-MARK_SHORT : goal.returns-else-p-eq-MARK_SHORT
returns-else-p-eq-MARK_SHORT c = ne_eqb _ _ c.if-p-eq-MARK_SHORT.false ∙ not_short c.get_property-p.result c.in-150.is c.if-p-eq-MARK_SHORT.false ∙ ap is_placing (property-shown c.get_property-p.ensures)

pub returns-in_default : goal.returns-in_default
returns-in_default c = no_place c.get_property-p.result (search rules) (search rules) ∙ ap is_placing (property-shown c.get_property-p.ensures)
