use native.Mathlib.Omega.{arith}
use Rattle.csvrows.proofs.Turns.{rows_start, rows_more, rows-done, rows_as}
use Rattle.csvrows.proofs.Steps.{tail_by-words}
use Rattle.csvrows.proofs.put_rows.Goals as goal

pub loop-i-init : goal.loop-i-init
loop-i-init c = rows_as (rows_start c.requires.few) (omega arith)

pub loop-i-preserved : goal.loop-i-preserved
loop-i-preserved c =
    rows_as (rows_more c.loop-i.invariant (tail_by-words c.args.stream.now c.args.owner.now) (omega arith) c.row_of-shown.ensures c.put_record-p.ensures) (omega arith)

pub returns : goal.returns
returns c = rows-done c.loop-i.invariant (omega arith)
