-- The first rule that the row breaks, in their order.
use native.Mathlib.Omega.{arith}
use Rattle.std.proofs.Common.{◌∙◌, sym, ap}
use Rattle.rules.specs.Panel.{is_new_name}
use Rattle.panel.specs.ByRows.{names_before}
use Rattle.panel.proofs.MarkLaws.{tried_broken, tried_kept}
use Rattle.panel.proofs.RuleLaws.{rule_1, rule_2, rule_3, rule_4, rule_5, rule_6, no-rule, before_next}
use Rattle.panel.proofs.Reading.tried.Goals as goal

pub returns-then-not-has : goal.returns-then-not-has
returns-then-not-has c = let r = c.args.self in tried_broken _ (rule_1 r.stream.now r.controls.now r.properties.now c.args.i _ c.get_control-row.ensures c.if-not-has.ensures)

pub returns-then-row-ne-NAME_TEXT : goal.returns-then-row-ne-NAME_TEXT
returns-then-row-ne-NAME_TEXT c =
    let r = c.args.self in
    tried_broken _ (rule_2 r.stream.now r.controls.now r.properties.now c.args.i _ c.get_control-row.ensures c.if-not-has.ensures c.if-row-ne-NAME_TEXT.true)

-- a name with mark 0 stands in the stream
pub name_of-requires : goal.name_of-requires
name_of-requires c = before_next c.args.self.rows c.requires.before c.requires.inside (sym c.get_control-row.ensures.mark ∙ c.if-row-ne-NAME_TEXT.false)

pub returns-then-not-note_name : goal.returns-then-not-note_name
returns-then-not-note_name c =
    let r = c.args.self in
    let new = ap (is_new_name (names_before r.stream.now r.controls.now c.args.i)) c.name_of.ensures in
    tried_broken _
    (rule_3 r.stream.now r.controls.now r.properties.now c.args.i _ c.get_control-row.ensures c.if-not-has.ensures c.if-row-ne-NAME_TEXT.false (c.if-not-note_name.ensures.told ∙ new))

-- the rows of its properties have numbers of 32 bits
pub overflow_add-to : goal.overflow_add-to
overflow_add-to c = let o = c.get_control-row.ensures in omega (arith, c.args.self.rows.counted c.args.i c.requires.inside, o.first, o.count)

pub returns-then-not-is_filled : goal.returns-then-not-is_filled
returns-then-not-is_filled c =
    let r = c.args.self in
    let new = ap (is_new_name (names_before r.stream.now r.controls.now c.args.i)) c.name_of.ensures in
    tried_broken _ (rule_4 r.stream.now r.controls.now r.properties.now c.args.i _ c.get_control-row.ensures c.if-not-has.ensures c.if-row-ne-NAME_TEXT.false (c.if-not-note_name.ensures.told ∙ new) c.if-not-is_filled.ensures)

pub returns-then-not-is_placed : goal.returns-then-not-is_placed
returns-then-not-is_placed c =
    let r = c.args.self in
    let new = ap (is_new_name (names_before r.stream.now r.controls.now c.args.i)) c.name_of.ensures in
    tried_broken _ (rule_5 r.stream.now r.controls.now r.properties.now c.args.i _ c.get_control-row.ensures c.if-not-has.ensures c.if-row-ne-NAME_TEXT.false (c.if-not-note_name.ensures.told ∙ new) c.if-not-is_filled.ensures c.if-not-is_placed.ensures)

pub returns-then-row-gt-DEEPEST : goal.returns-then-row-gt-DEEPEST
returns-then-row-gt-DEEPEST c =
    let r = c.args.self in
    let new = ap (is_new_name (names_before r.stream.now r.controls.now c.args.i)) c.name_of.ensures in
    tried_broken _ (rule_6 r.stream.now r.controls.now r.properties.now c.args.i _ c.get_control-row.ensures c.if-not-has.ensures c.if-row-ne-NAME_TEXT.false (c.if-not-note_name.ensures.told ∙ new) c.if-not-is_filled.ensures c.if-not-is_placed.ensures c.if-row-gt-DEEPEST.true)

pub returns : goal.returns
returns c =
    let r = c.args.self in
    let new = ap (is_new_name (names_before r.stream.now r.controls.now c.args.i)) c.name_of.ensures in
    tried_kept _ c.name_of.ensures c.if-not-note_name.ensures
    (no-rule r.stream.now r.controls.now r.properties.now c.args.i _ c.get_control-row.ensures c.if-not-has.ensures c.if-row-ne-NAME_TEXT.false (c.if-not-note_name.ensures.told ∙ new) c.if-not-is_filled.ensures c.if-not-is_placed.ensures c.if-row-gt-DEEPEST.false)
