use Rattle.std.proofs.Common.{subst, List, arith}
use Rattle.tablelines.specs.Items.{Item}
use Rattle.tablemaking.specs.Made.{FewRows}
use Rattle.tablemaking.proofs.Parts.{all_left, line-put, no-line-left, a_scope-said, no-scopes, few-rest}
use Rattle.tablemaking.proofs.put_scopes.Goals as goal

pub loop-place-init : goal.loop-place-init
loop-place-init c = record { lines = all_left; few = c.requires.few }

pub put_if_scope-p-requires : goal.put_if_scope-p-requires
put_if_scope-p-requires c =
    record { short = c.requires.short; few = subst (λ (items : List Item). FewRows items) c.line_at-line.ensures.is c.loop-place.invariant.few }

pub loop-place-smaller : goal.loop-place-smaller
loop-place-smaller c = omega (arith, c.line_at-line.ensures.on)

pub loop-place-preserved : goal.loop-place-preserved
loop-place-preserved c =
    let line = c.line_at-line.ensures in
    let kept = c.loop-place.invariant in
    record {
      lines = line-put kept.lines line (a_scope-said _ _) c.put_if_scope-p.ensures;
      few = few-rest _ _ (subst (λ (items : List Item). FewRows items) line.is kept.few);
    }

pub returns : goal.returns
returns c = no-line-left c.loop-place.invariant.lines (omega (arith, c.loop-place-test.false)) no-scopes
