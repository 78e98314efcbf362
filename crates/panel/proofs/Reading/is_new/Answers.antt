-- The name of a turn is the one, or the names before it decide.
use Rattle.std.proofs.Common.{◌∙◌, sym, ap}
use Rattle.rules.specs.Lists.{same}
use Rattle.panel.proofs.NameLaws.{name_there, name_other, none_before}
use Rattle.panel.proofs.Reading.is_new.Goals as goal

pub returns-then-same_bytes : goal.returns-then-same_bytes
returns-then-same_bytes c =
    let r = c.args.self in
    name_there r.stream.now r.controls.now c.args.name.now c.loop-j.j c.loop-j-test.true (ap (λ a. same a c.args.name.now) (sym c.name_of.ensures) ∙ sym c.if-same_bytes.ensures)
    ∙ sym c.loop-j.invariant

pub loop-j-preserved : goal.loop-j-preserved
loop-j-preserved c =
    let r = c.args.self in
    c.loop-j.invariant
    ∙ name_other r.stream.now r.controls.now c.args.name.now c.loop-j.j c.loop-j-test.true (ap (λ a. same a c.args.name.now) (sym c.name_of.ensures) ∙ sym c.if-same_bytes.ensures)

pub returns : goal.returns
returns c = sym (c.loop-j.invariant ∙ none_before c.args.self.stream.now c.args.self.controls.now c.args.name.now c.loop-j.j c.loop-j-test.false)
