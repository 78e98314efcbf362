use Rattle.std.proofs.Common.{◌≡◌, sym, ◌∙◌, inl, inr, true, ◌||◌, eqb, arith}
use Rattle.codetable.proofs.Steps.{ScopeOf, scopes_begin, scopes-kind, scopes-code, code_ok, scopes-low, scopes_past, scopes-rows, scopes-step, scopes-done}
use Rattle.codetable.proofs.scopes_fit.Goals as goal
use Rattle.codetable.proofs.scopes_fit.Goals.{then-kind-ne-LAST_SCOPE_KIND+else-code-ne0, else-kind-ne-LAST_SCOPE_KIND}

pub loop-i-init : goal.loop-i-init
loop-i-init c = record { decide = sym (scopes_begin _ _ _ _); body_small = omega arith; key_small = omega arith }

pub returns-then-kind-gt-LAST_SCOPE_KIND : goal.returns-then-kind-gt-LAST_SCOPE_KIND
returns-then-kind-gt-LAST_SCOPE_KIND c =
    sym (c.loop-i.invariant.decide ∙ scopes-kind (record { more = omega arith; kind-is = c.byte_number-kind.ensures.is; code_is = c.u16_number-code.ensures.is; count-is = c.u16_number-count.ensures.is }) _ _ (omega arith))

pub returns-then-code-ne0 : goal.returns-then-code-ne0
returns-then-code-ne0 c =
    sym (c.loop-i.invariant.decide ∙ scopes-code (record { more = omega arith; kind-is = c.byte_number-kind.ensures.is; code_is = c.u16_number-code.ensures.is; count-is = c.u16_number-count.ensures.is }) _ _ (omega arith) c.if-kind-ne-LAST_SCOPE_KIND.true c.if-code-ne0.true)

pub returns-then-key-least : goal.returns-then-key-least
returns-then-key-least c =
    sym (c.loop-i.invariant.decide ∙ scopes-low (record { more = omega arith; kind-is = c.byte_number-kind.ensures.is; code_is = c.u16_number-code.ensures.is; count-is = c.u16_number-count.ensures.is }) _ _ (omega arith))

pub returns-then-table-body : goal.returns-then-table-body
returns-then-table-body c =
    sym (c.loop-i.invariant.decide ∙ scopes_past (record { more = omega arith; kind-is = c.byte_number-kind.ensures.is; code_is = c.u16_number-code.ensures.is; count-is = c.u16_number-count.ensures.is }) _ _ (omega arith))

pub returns-then-not-ties_ok : goal.returns-then-not-ties_ok
returns-then-not-ties_ok c =
    let read : ScopeOf c.args.table.now c.args.start c.args.n c.loop-i.i c.byte_number-kind.result c.u16_number-code.result c.u16_number-count.result =
    record { more = omega arith; kind-is = c.byte_number-kind.ensures.is; code_is = c.u16_number-code.ensures.is; count-is = c.u16_number-count.ensures.is } in
    let code_known : (eqb c.byte_number-kind.result 2 || eqb c.u16_number-code.result 0) ≡ true =
    elim c.if-kind-ne-LAST_SCOPE_KIND.branch [
      | then-kind-ne-LAST_SCOPE_KIND+else-code-ne0 w ↦ code_ok c.byte_number-kind.result c.u16_number-code.result (inr (omega (arith, w.if-code-ne0.false)))
      | else-kind-ne-LAST_SCOPE_KIND w ↦ code_ok c.byte_number-kind.result c.u16_number-code.result (inl (omega (arith, w.if-kind-ne-LAST_SCOPE_KIND.false)))
    ] in
    sym (c.loop-i.invariant.decide ∙ scopes-rows read _ _ (omega arith) code_known (sym c.if-not-ties_ok.ensures))

pub loop-i-preserved : goal.loop-i-preserved
loop-i-preserved c =
    let read : ScopeOf c.args.table.now c.args.start c.args.n c.loop-i.i c.byte_number-kind.result c.u16_number-code.result c.u16_number-count.result =
    record { more = omega arith; kind-is = c.byte_number-kind.ensures.is; code_is = c.u16_number-code.ensures.is; count-is = c.u16_number-count.ensures.is } in
    let code_known : (eqb c.byte_number-kind.result 2 || eqb c.u16_number-code.result 0) ≡ true =
    elim c.if-kind-ne-LAST_SCOPE_KIND.branch [
      | then-kind-ne-LAST_SCOPE_KIND+else-code-ne0 w ↦ code_ok c.byte_number-kind.result c.u16_number-code.result (inr (omega (arith, w.if-code-ne0.false)))
      | else-kind-ne-LAST_SCOPE_KIND w ↦ code_ok c.byte_number-kind.result c.u16_number-code.result (inl (omega (arith, w.if-kind-ne-LAST_SCOPE_KIND.false)))
    ] in
    record {
      decide = c.loop-i.invariant.decide ∙ scopes-step read _ _ (omega arith) (omega arith) code_known (sym c.if-not-ties_ok.ensures);
      body_small = omega arith;
      key_small = omega arith;
    }

pub returns : goal.returns
returns c = sym (c.loop-i.invariant.decide ∙ scopes-done _ _ _ _ _ _ (omega arith))
