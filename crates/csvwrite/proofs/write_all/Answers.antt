use native.Mathlib.Omega.{arith}
use Rattle.csvwrite.proofs.ExitLaws.{refused_all, all-ready, sheet-ready, size_small, written-exit}
use Rattle.csvwrite.proofs.write_all.Goals as goal

pub returns-then-a-ne-READ : goal.returns-then-a-ne-READ
returns-then-a-ne-READ c =
    refused_all c.requires c.read_blob-a.ensures (λ e. omega (arith, c.if-a-ne-READ.true))

pub put_sheet-size-requires : goal.put_sheet-size-requires
put_sheet-size-requires c =
    let h = all-ready c.requires c.read_blob-a.ensures (omega (arith, c.if-a-ne-READ.false)) (omega arith) (record { index_is = c.index-index.ensures; letters-are = c.letters-letters.ensures }) in
    sheet-ready h c.read_blob-a.ensures (omega arith) (omega arith)

pub overflow_cast-size : goal.overflow_cast-size
overflow_cast-size c =
    let h = all-ready c.requires c.read_blob-a.ensures (omega (arith, c.if-a-ne-READ.false)) (omega arith) (record { index_is = c.index-index.ensures; letters-are = c.letters-letters.ensures }) in
    record { fits = omega (arith, size_small h c.read_blob-a.ensures c.put_sheet-size.ensures) }

pub returns : goal.returns
returns c =
    let h = all-ready c.requires c.read_blob-a.ensures (omega (arith, c.if-a-ne-READ.false)) (omega arith) (record { index_is = c.index-index.ensures; letters-are = c.letters-letters.ensures }) in
    written-exit h c.read_blob-a.ensures c.put_sheet-size.ensures c.wrote.ensures
