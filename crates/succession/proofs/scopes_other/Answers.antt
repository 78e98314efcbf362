use Rattle.std.proofs.Common.{◌≡◌, ℕ, ◌+◌, ◌-◌, ◌*◌, ◌<◌, sym, ap, ◌∙◌, arith}
use Rattle.coderows.specs.Look.{body_rows}
use Rattle.succession.specs.Found.{as_lack}
use Rattle.succession.proofs.Scopes.{all-scopes_tried, scope-told, scope-passes}
use Rattle.succession.proofs.scopes_other.Goals as goal

pub rows_other-lack-requires : goal.rows_other-lack-requires
unfolding body_rows
rows_other-lack-requires c =
    let k = c.loop-i.invariant.bodies_end in
    let theirs = c.scope_near-scope.ensures c.requires.listed in
    record { ends = omega arith; theirs-end = omega arith; sorted = theirs.sorted c.requires.formed }

pub returns-then-is_some : goal.returns-then-is_some
unfolding body_rows
returns-then-is_some c =
    let theirs = c.scope_near-scope.ensures c.requires.listed in
    let more : 0 < c.u16_number-scopes.result - c.loop-i.i = omega arith in
    scope-told c.loop-i.invariant (record { more = more; kind-is = c.byte_number-kind.ensures.is; code_is = c.u16_number-code.ensures.is; count-is = c.u16_number-n.ensures.is })
    (theirs.rows c.requires.formed) c.rows_other-lack.ensures (sym c.is_some.ensures ∙ c.if-is_some.true)

pub loop-i-preserved : goal.loop-i-preserved
unfolding body_rows
loop-i-preserved c =
    let i = c.loop-i.i in
    let theirs = c.scope_near-scope.ensures c.requires.listed in
    let start : ℕ = 4 + 2 * c.byte_number.result in
    let n : ℕ = c.u16_number-scopes.result in
    let more : 0 < n - i = omega arith in
    let e : start + 5 * i + 5 ≡ start + 5 * (i + 1) = omega arith in
    let f : n - i - 1 ≡ n - (i + 1) = omega arith in
    rw (← e, ← f)
    (scope-passes c.loop-i.invariant (record { more = more; kind-is = c.byte_number-kind.ensures.is; code_is = c.u16_number-code.ensures.is; count-is = c.u16_number-n.ensures.is })
    (theirs.rows c.requires.formed) c.rows_other-lack.ensures c.u16_number-n.ensures.small (sym c.is_some.ensures ∙ c.if-is_some.false))

pub returns : goal.returns
unfolding as_lack
returns c = sym (ap as_lack (all-scopes_tried c.loop-i.invariant (omega arith)))
