-- The mark of the name's place, changed or not.
use native.Mathlib.Omega.{arith}
use Rattle.std.proofs.Common.{◌∙◌, ap}
use Rattle.panel.specs.Marks.{place_by, tag_by}
use Rattle.panel.proofs.MarkLaws.{place-small, told_new, noted}
use Rattle.panel.proofs.Reading.note_name.Goals as goal

pub bounds-marks-place : goal.bounds-marks-place
bounds-marks-place c = omega (arith, place-small c.spread_of-number.result, c.place_of-place.ensures)

pub bounds-marks-place-2 : goal.bounds-marks-place-2
bounds-marks-place-2 c = omega (arith, place-small c.spread_of-number.result, c.place_of-place.ensures)

pub returns-then-mark-next : goal.returns-then-mark-next
returns-then-mark-next c =
    let n = c.spread_of-number.ensures in
    noted c.requires.marked c.args.name.now (c.place_of-place.ensures ∙ ap place_by n) (c.tag_of.ensures ∙ ap (λ x. tag_by x) n) (omega (arith, c.changed-next.ensures)) _ c.is_new.ensures

pub returns : goal.returns
returns c =
    let n = c.spread_of-number.ensures in
    let is = c.place_of-place.ensures ∙ ap place_by n in
    let tagged = c.tag_of.ensures ∙ ap (λ x. tag_by x) n in
    noted c.requires.marked c.args.name.now is tagged (omega (arith, c.changed-next.ensures)) _
    (told_new c.requires.marked c.args.name.now is tagged c.changed-next.ensures (λ e. omega (arith, e)))
