use Rattle.std.proofs.Common.{Some, ◌≡◌, ap, ◌∙◌, arith}
use mathlib.Core.Option as maybe
use Rattle.rules.specs.Access2000.{head_at_lem}
use Rattle.walk2000.proofs.Inverse.{opens_listed}
use Rattle.cursor2000.proofs.StepLaws.{count_small}
use Rattle.form2000.proofs.Whole.{never-plain, never_bad}
use Rattle.differ2000.proofs.Whole.{is, own-ready, own-end, top_ready, top-done}
use Rattle.differ2000.proofs.list_stream.Goals as goal

pub list_run-own-requires : goal.list_run-own-requires
list_run-own-requires c = own-ready c.requires c.object_scope-kind.ensures (rw c.of-in_older.ensures at c.find.ensures.rows) (rw c.of-in_newer.ensures at c.find-2.ensures.rows)

pub overflow_cast-count : goal.overflow_cast-count
overflow_cast-count c =
    let l : head_at_lem c.args.s.now c.list_run-own.result.at ≡ maybe.some (maybe.some c.in-Some-Listed.count, c.in-Some-Listed.next) = opens_listed _ _ _ _ c.head.ensures (c.in-Some-Listed.is ∙ ap Some c.in-Some-Listed.field-0-is) in
    omega (arith, count_small c.args.s.now (λ i. (c.type_inv.s i).fits) _ _ _ l)

pub list_top-requires : goal.list_top-requires
list_top-requires c =
    rw (c.find.ensures.same, c.of-in_older.ensures, c.find-2.ensures.same, c.of-in_newer.ensures)
    (top_ready c.requires c.object_scope-kind.ensures (rw c.of-in_older.ensures at c.find.ensures.rows) (rw c.of-in_newer.ensures at c.find-2.ensures.rows) c.list_run-own.ensures c.head.ensures (c.in-Some-Listed.is ∙ ap Some c.in-Some-Listed.field-0-is))

pub returns-in-Some-Listed : goal.returns-in-Some-Listed
returns-in-Some-Listed c =
    top-done c.requires c.object_scope-kind.ensures (rw c.of-in_older.ensures at c.find.ensures.rows) (rw c.of-in_newer.ensures at c.find-2.ensures.rows) c.list_run-own.ensures c.head.ensures (c.in-Some-Listed.is ∙ ap Some c.in-Some-Listed.field-0-is)
    (rw (c.find.ensures.same, c.of-in_older.ensures, c.find-2.ensures.same, c.of-in_newer.ensures) at c.list_top.ensures)

pub returns-in-Some-Plain : goal.returns-in-Some-Plain
returns-in-Some-Plain c =
    let e = own-end c.requires c.object_scope-kind.ensures (rw c.of-in_older.ensures at c.find.ensures.rows) (rw c.of-in_newer.ensures at c.find-2.ensures.rows) c.list_run-own.ensures in
    absurd (never-plain (is c.requires) e c.head.ensures (c.in-Some-Plain.is ∙ ap Some c.in-Some-Plain.field-0-is))

pub returns-in-None : goal.returns-in-None
returns-in-None c =
    let e = own-end c.requires c.object_scope-kind.ensures (rw c.of-in_older.ensures at c.find.ensures.rows) (rw c.of-in_newer.ensures at c.find-2.ensures.rows) c.list_run-own.ensures in
    absurd (never_bad (is c.requires) e c.head.ensures c.in-None.is)
