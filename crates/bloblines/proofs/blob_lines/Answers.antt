-- The answer alone where it refuses, or with the lines of both kinds of rows.
use native.Mathlib.Omega.{arith}
use Rattle.std.proofs.Common.{rules}
use Rattle.bloblines.proofs.BlobLaws.{blob-refused, blob-read}
use Rattle.bloblines.proofs.blob_lines.Goals as goal

pub returns-then-a-ne0 : goal.returns-then-a-ne0
returns-then-a-ne0 c =
    let a = c.args in
    blob-refused a.table.now a.stream.now a.controls.now a.properties.now _ _ _ c.read_blob-a.ensures
    (record {
      number = omega arith;
      first = omega arith;
      second = omega arith;
      third = omega arith;
      controls = λ i. omega (arith, c.type_inv.controls i);
      properties = λ i. omega (arith, c.type_inv.properties i);
    })
    c.answer_line-p.ensures (λ e. omega arith)

pub returns : goal.returns
returns c =
    let a = c.args in
    blob-read a.table.now a.stream.now a.controls.now a.properties.now _ _ _ c.read_blob-a.ensures
    (record {
      number = omega arith;
      first = omega arith;
      second = omega arith;
      third = omega arith;
      controls = λ i. search rules;
      properties = λ i. search rules;
    })
    c.answer_line-p.ensures (omega (arith, c.if-a-ne0.false)) c.lines-p.ensures c.lines.ensures
