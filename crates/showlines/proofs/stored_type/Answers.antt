use Rattle.std.proofs.Common.{◌≡◌, ◌+◌, ◌*◌, ◌-◌, sym, ap₂, ◌∙◌, arith}
use Rattle.showlines.proofs.LineLaws.{stored_from, stored-all, stored_here, stored-later, stored-none}
use Rattle.showlines.proofs.stored_type.Goals as goal

pub loop-k-init : goal.loop-k-init
loop-k-init c = stored-all c.args.table.now c.args.mark c.args.type_code _ (omega arith)

pub returns-then-bit_or-type_code : goal.returns-then-bit_or-type_code
returns-then-bit_or-type_code c =
    let a = c.args in
    let l = c.loop-k in
    sym (stored_here a.table.now a.mark a.type_code (4 + 2 * l.k) _ (omega arith) _ c.u16_at-code.ensures (sym c.bit_or.ensures ∙ c.if-bit_or-type_code.true)) ∙ l.invariant

pub loop-k-preserved : goal.loop-k-preserved
loop-k-preserved c =
    let a = c.args in
    let l = c.loop-k in
    let n = c.from-count.result in
    let at : 4 + 2 * (l.k + 1) ≡ 4 + 2 * l.k + 2 = omega arith in
    let left : n - (l.k + 1) ≡ n - l.k - 1 = omega arith in
    ap₂ (stored_from a.table.now a.mark a.type_code) at left
    ∙ sym (stored-later a.table.now a.mark a.type_code (4 + 2 * l.k) (n - l.k) (omega arith) _ c.u16_at-code.ensures (λ e. c.if-bit_or-type_code.false (c.bit_or.ensures ∙ e)))
    ∙ l.invariant

pub returns : goal.returns
returns c =
    let a = c.args in
    let l = c.loop-k in
    sym (stored-none a.table.now a.mark a.type_code (4 + 2 * l.k) _ (omega arith)) ∙ l.invariant
