-- A refusal of the reading is handed on; what is read is judged.
use native.Mathlib.Omega.{arith}
use Rattle.panel.proofs.ReadLaws.{handed-on, rows_asked, judged-on}
use Rattle.panel.proofs.check_panel.Goals as goal

pub returns-then-a-ne0 : goal.returns-then-a-ne0
returns-then-a-ne0 c =
    handed-on c.args.table.now c.args.stream.now c.args.controls.now c.args.properties.now _ _ _ c.read_blob-a.ensures (λ e. omega (arith, e))

pub invariant_of-reading : goal.invariant_of-reading
invariant_of-reading c = record {
  rows = rows_asked c.args.table.now c.args.stream.now c.args.controls.now c.args.properties.now _ _ _ c.read_blob-a.ensures (omega arith) (omega arith);
}

pub returns : goal.returns
returns c = judged-on c.args.table.now c.args.stream.now c.args.controls.now c.args.properties.now _ _ _ c.read_blob-a.ensures (omega (arith, c.if-a-ne0.false)) _ c.judge.ensures
