use Rattle.std.proofs.Common.{◌≡◌, ◌+◌, ◌-◌, arith}
use Rattle.showlines.proofs.Steps.{marked_start, marked-few, marked_more, marked-done}
use Rattle.showlines.proofs.marked.Goals as goal

pub loop-i-init : goal.loop-i-init
loop-i-init c =
    let e : c.args.count - 0 ≡ c.args.count = omega arith in
    rw e (marked_start c.args.rows.now c.args.count (omega arith))

pub overflow_add-found : goal.overflow_add-found
overflow_add-found c =
    let h = marked-few c.loop-i.invariant (omega arith) c.get_id.ensures c.one_if_unmapped-found.ensures in omega arith

pub loop-i-preserved : goal.loop-i-preserved
loop-i-preserved c =
    let l = c.loop-i in
    let e : c.args.count - (l.i + 1) ≡ c.args.count - l.i - 1 = omega arith in
    rw e (marked_more l.invariant (omega arith) c.get_id.ensures c.one_if_unmapped-found.ensures)

pub returns : goal.returns
returns c = marked-done c.loop-i.invariant (omega arith)
