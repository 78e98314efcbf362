-- By what the input has of its code table and its Blob.
use Rattle.std.proofs.Common.{refl, arith}
use Rattle.std.proofs.Math.ListN.{length-drop}
use Rattle.csvout.proofs.Printing.{table-cut, blob-long, slices_parted}
use Rattle.csvout.proofs.put.Goals as goal

pub refuse-requires : goal.refuse-requires
refuse-requires c =
    let z = c.u32_at-size.ensures in
    table-cut _ c.requires (omega arith) (omega arith)

pub refuse-requires-then-input-start-gt-LONGEST_BLOB : goal.refuse-requires-then-input-start-gt-LONGEST_BLOB
refuse-requires-then-input-start-gt-LONGEST_BLOB c =
    let z = c.u32_at-size.ensures in
    blob-long _ c.requires (omega arith) (omega arith) (simp length-drop (omega arith))

pub put_sheet-requires : goal.put_sheet-requires
put_sheet-requires c =
    let z = c.u32_at-size in
    slices_parted _ c.requires (omega arith) (omega (arith, z.ensures)) z.result z.ensures (omega arith) refl refl
