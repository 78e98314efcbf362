use Rattle.std.proofs.Common.{ap, ◌∙◌, Ok, [], drop, arith}
use Rattle.rules.specs.Join.{scope_bytes}
use Rattle.text.proofs.Chain.{nothing}
use Rattle.tablelines.specs.Items.{items_of, said}
use Rattle.tablemaking.specs.Made.{by_part_lem, rows_of, scope_said}
use Rattle.tablemaking.proofs.Parts.{no-scope, few_of}
use Rattle.tablemaking.proofs.put_if_scope.Goals as goal

pub returns-in_default : goal.returns-in_default
unfolding scope_said by_part_lem
returns-in_default c = rw c.in_default.is nothing

pub overflow_cast-rows_from : goal.overflow_cast-rows_from
overflow_cast-rows_from c =
    let a = c.args in
    let e = ap said c.in-Ok.is ∙ ap (λ item. said (Ok item)) c.in-Scope.is in
    omega (arith, c.rows_from.ensures, few_of (said a.item) _ _ (items_of (drop a.next a.text.now)) e c.requires.few)

pub returns-in-Scope : goal.returns-in-Scope
unfolding scope_said by_part_lem
returns-in-Scope c = rw (c.in-Ok.is, c.in-Scope.is, ← c.rows_from.ensures) c.put_scope.ensures

pub returns-in_default-item : goal.returns-in_default-item
unfolding scope_said
returns-in_default-item c =
    let a = c.args in
    rw (
      c.in-Ok.is,
      no-scope [] (λ kind code. scope_bytes (record { kind = kind; code = code; rows = rows_of (items_of (drop a.next a.text.now)) })) c.in-Ok.item c.in_default-item.not-Scope,
    )
    nothing
