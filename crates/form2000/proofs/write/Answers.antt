use Rattle.std.proofs.Common.{arith}
use mathlib.Core.Path.{◌≡◌, ap, ◌∙◌}
use Rattle.std.proofs.Common as code
use mathlib.Core.Option as maybe
use Rattle.rules.specs.Access2000.{head_at_lem}
use Rattle.walk2000.proofs.Inverse.{opens_listed}
use Rattle.cursor2000.proofs.StepLaws.{count_small}
use Rattle.form2000.proofs.Whole.{never-plain, never_bad}
use Rattle.form2000.proofs.Writes.{is, own-ready, own-end, top_ready, top-done}
use Rattle.form2000.proofs.write.Goals as goal

pub properties-own-requires : goal.properties-own-requires
properties-own-requires c = own-ready c.requires c.object_scope.ensures (c.find_scope-body.ensures c.list_scopes.ensures)

pub returns-in-Some-Plain : goal.returns-in-Some-Plain
returns-in-Some-Plain c =
    let e = own-end c.requires c.object_scope.ensures (c.find_scope-body.ensures c.list_scopes.ensures) c.properties-own.ensures in
    absurd (never-plain (is c.requires) e c.head.ensures (c.in-Some-Plain.is ∙ ap code.Some c.in-Some-Plain.field-0-is))

pub returns-in-None : goal.returns-in-None
returns-in-None c =
    let e = own-end c.requires c.object_scope.ensures (c.find_scope-body.ensures c.list_scopes.ensures) c.properties-own.ensures in
    absurd (never_bad (is c.requires) e c.head.ensures c.in-None.is)

pub overflow_cast-n : goal.overflow_cast-n
overflow_cast-n c =
    let l : head_at_lem c.args.s.now c.properties-own.result.at ≡ maybe.some (maybe.some c.in-Some-Listed.count, c.in-Some-Listed.next) = opens_listed _ _ _ _ c.head.ensures (c.in-Some-Listed.is ∙ ap code.Some c.in-Some-Listed.field-0-is) in
    omega (arith, count_small c.args.s.now (λ i. (c.type_inv.s i).fits) _ _ _ l)

pub put_top-requires : goal.put_top-requires
put_top-requires c =
    top_ready c.requires c.object_scope.ensures (c.find_scope-body.ensures c.list_scopes.ensures) c.properties-own.ensures c.head.ensures (c.in-Some-Listed.is ∙ ap code.Some c.in-Some-Listed.field-0-is) c.list_scopes.ensures

pub returns-in-Some-Listed : goal.returns-in-Some-Listed
returns-in-Some-Listed c =
    top-done c.requires c.object_scope.ensures (c.find_scope-body.ensures c.list_scopes.ensures) c.properties-own.ensures c.head.ensures (c.in-Some-Listed.is ∙ ap code.Some c.in-Some-Listed.field-0-is) c.put_top.ensures
