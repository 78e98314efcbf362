-- The input is refused, or its two parts are read.
use native.Mathlib.Omega.{arith}
use Rattle.std.proofs.Common.{refl, length-drop}
use Rattle.bloblines.proofs.InputLaws.{no_length, table-cut, blob-long, blob-written}
use Rattle.bloblines.proofs.write_listing.Goals as goal

pub returns-then-input-lt4 : goal.returns-then-input-lt4
returns-then-input-lt4 c = no_length c.args.input.now c.args.controls.now c.args.properties.now (omega arith) c.refusal_line.ensures

pub returns-then-input-size : goal.returns-then-input-size
returns-then-input-size c =
    let z = c.u32_at-size.ensures in
    table-cut c.args.input.now c.args.controls.now c.args.properties.now (omega arith) (omega arith) c.refusal_line-then-input-size.ensures

pub returns-then-input-start-gt-LONGEST_BLOB : goal.returns-then-input-start-gt-LONGEST_BLOB
returns-then-input-start-gt-LONGEST_BLOB c =
    let z = c.u32_at-size.ensures in
    blob-long c.args.input.now c.args.controls.now c.args.properties.now (omega arith) (omega arith) (simp length-drop (omega arith)) c.refusal_line-then-input-start-gt-LONGEST_BLOB.ensures

pub returns : goal.returns
returns c =
    let z = c.u32_at-size.ensures in
    blob-written c.args.input.now c.args.controls.now c.args.properties.now (omega arith) (omega arith) c.u32_at-size.result z (omega arith) refl refl c.blob_lines.ensures
