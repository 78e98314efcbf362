use Rattle.std.proofs.Common.{Some, ◌≡◌, ap, ◌∙◌, arith}
use mathlib.Core.Option as maybe
use Rattle.rules.specs.Access2000.{head_at_lem}
use Rattle.walk2000.proofs.Inverse.{opens_listed}
use Rattle.cursor2000.proofs.StepLaws.{count_small}
use Rattle.form2000.proofs.Whole.{never-plain, never_bad}
use Rattle.csv2000.proofs.Whole.{is, own-ready, own-end, top_ready, whole-done}
use Rattle.csv2000.proofs.sheet_left.Goals as goal

pub run_left-own-requires : goal.run_left-own-requires
run_left-own-requires c = own-ready c.requires c.object_scope.ensures (rw c.of-scopes.ensures at c.find-body.ensures.rows)

pub overflow_cast-count : goal.overflow_cast-count
overflow_cast-count c =
    let l : head_at_lem c.args.s.now c.run_left-own.result.at ≡ maybe.some (maybe.some c.in-Some-Listed.count, c.in-Some-Listed.next) = opens_listed _ _ _ _ c.head.ensures (c.in-Some-Listed.is ∙ ap Some c.in-Some-Listed.field-0-is) in
    omega (arith, count_small c.args.s.now (λ i. (c.type_inv.s i).fits) _ _ _ l)

pub top_left-requires : goal.top_left-requires
top_left-requires c =
    rw (c.find-body.ensures.same, c.of-scopes.ensures)
    (top_ready c.requires c.object_scope.ensures (rw c.of-scopes.ensures at c.find-body.ensures.rows) c.args.all c.owner_size-owner.ensures c.run_left-own.ensures c.head.ensures (c.in-Some-Listed.is ∙ ap Some c.in-Some-Listed.field-0-is))

pub returns-in-Some-Listed : goal.returns-in-Some-Listed
returns-in-Some-Listed c =
    whole-done c.requires c.object_scope.ensures (rw c.of-scopes.ensures at c.find-body.ensures.rows) c.args.all c.owner_size-owner.ensures c.run_left-own.ensures c.head.ensures (c.in-Some-Listed.is ∙ ap Some c.in-Some-Listed.field-0-is)
    (rw (c.find-body.ensures.same, c.of-scopes.ensures) at c.top_left.ensures)

pub returns-in-Some-Plain : goal.returns-in-Some-Plain
returns-in-Some-Plain c =
    let e = own-end c.requires c.object_scope.ensures (rw c.of-scopes.ensures at c.find-body.ensures.rows) c.args.all c.owner_size-owner.ensures c.run_left-own.ensures in
    absurd (never-plain (is c.requires) e c.head.ensures (c.in-Some-Plain.is ∙ ap Some c.in-Some-Plain.field-0-is))

pub returns-in-None : goal.returns-in-None
returns-in-None c =
    let e = own-end c.requires c.object_scope.ensures (rw c.of-scopes.ensures at c.find-body.ensures.rows) c.args.all c.owner_size-owner.ensures c.run_left-own.ensures in
    absurd (never_bad (is c.requires) e c.head.ensures c.in-None.is)
