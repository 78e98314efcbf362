-- What is no box is filled; a box is by its sources.
use Rattle.std.proofs.Common.{◌∙◌, sym, ap, not}
use Rattle.panel.specs.ByRows.{between}
use Rattle.panel.proofs.PropertyLaws.{no_box_filled, box_filled}
use Rattle.panel.proofs.is_filled.Goals as goal

pub returns-then-not-is_box : goal.returns-then-not-is_box
returns-then-not-is_box c =
    ap not c.if-not-is_box.true ∙ no_box_filled c.args.type_code (between c.args.properties.now c.args.from c.args.to) (sym c.if-not-is_box.ensures)

pub returns-else-not-is_box : goal.returns-else-not-is_box
returns-else-not-is_box c = box_filled c.args.type_code (between c.args.properties.now c.args.from c.args.to) _ (sym c.if-not-is_box.ensures) c.is_one_text.ensures
