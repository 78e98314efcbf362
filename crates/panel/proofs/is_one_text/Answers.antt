-- One source and no other, by its mark and its size.
use Rattle.std.proofs.Common.{◌+◌, ◌∙◌, sym}
use borrow.Author.Tests.{ne_eqb}
use Rattle.rows.proofs.GetLaws.{property-shown}
use Rattle.panel.proofs.PropertyLaws.{none_at_all, two_sources, no_other, not_text, by_size}
use Rattle.panel.proofs.is_one_text.Goals as goal

pub returns-in_default : goal.returns-in_default
returns-in_default c = none_at_all c.args.properties.now c.args.from c.args.to c.in_default.ensures

pub returns-then-is_some : goal.returns-then-is_some
returns-then-is_some c = two_sources c.in-Some.ensures _ c.next_source-2.ensures (sym c.if-is_some.ensures)

pub returns-then-source-eq-MARK_TEXT : goal.returns-then-source-eq-MARK_TEXT
returns-then-source-eq-MARK_TEXT c =
    by_size c.in-Some.ensures (property-shown c.get_property-source.ensures) (no_other c.args.properties.now (c.in-Some.at + 1) c.args.to _ c.next_source-2.ensures (sym c.if-is_some.ensures))
    c.if-source-eq-MARK_TEXT.true

pub returns-else-source-eq-MARK_TEXT : goal.returns-else-source-eq-MARK_TEXT
returns-else-source-eq-MARK_TEXT c =
    ne_eqb _ 6 c.if-source-eq-MARK_TEXT.false
    ∙ not_text c.in-Some.ensures (property-shown c.get_property-source.ensures) (no_other c.args.properties.now (c.in-Some.at + 1) c.args.to _ c.next_source-2.ensures (sym c.if-is_some.ensures))
    c.if-source-eq-MARK_TEXT.false
