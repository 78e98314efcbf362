use mathlib.Core.Path.{sym}
use Prim.Native.Nat.{ℕ}
use native.Mathlib.Omega.{arith}
use lib.ListN.{length-replicate}
use lib.Seq.{length-take-le}
use Rattle.text.proofs.Chain.{◌⨟◌}
use Rattle.tablejoin.specs.Said.{room}
use Rattle.tablejoin.proofs.Exits.{said-refused, said-joined, first_fits}
use Rattle.tablejoin.proofs.write_said.Goals as goal

pub returns-then-a-ne0 : goal.returns-then-a-ne0
unfolding room
returns-then-a-ne0 c =
    let a = c.args in
    rw (said-refused a.one.now a.other.now c.join-a.ensures.value (λ e. omega arith)) (c.answer_line-p.ensures ⨟ c.put_why.ensures)

pub slice_bounds-table-end : goal.slice_bounds-table-end
unfolding room
slice_bounds-table-end c =
    let a = c.args in
    let j = c.join-a in
    omega (arith, first_fits a.one.now a.other.now j.ensures.value (omega (arith, c.if-a-ne0.false)), j.auto, length-replicate {A = ℕ} 65100 0)

pub slice_bounds-put_text-end : goal.slice_bounds-put_text-end
unfolding room
slice_bounds-put_text-end c =
    let a = c.args in
    let j = c.join-a in
    sym (length-take-le j.result.first _ (omega (arith, first_fits a.one.now a.other.now j.ensures.value (omega (arith, c.if-a-ne0.false)), j.auto, length-replicate {A = ℕ} 65100 0)))

pub returns : goal.returns
unfolding room
returns c =
    let a = c.args in
    let j = c.join-a in
    rw (said-joined a.one.now a.other.now j.ensures.value j.ensures.out_after (omega (arith, c.if-a-ne0.false))) (c.answer_line-p.ensures ⨟ c.put_text.ensures)
