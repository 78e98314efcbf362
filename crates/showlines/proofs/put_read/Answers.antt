use Rattle.std.proofs.Common.{sym, ap, ◌∙◌, arith}
use Rattle.text.proofs.Chain.{wrote_as}
use Rattle.blob.specs.Exit.{exited}
use Rattle.showlines.specs.declared.Reading.{Reading}
use Rattle.showlines.specs.Rows.{slices_text}
use Rattle.showlines.specs.Shown.{counts_of}
use Rattle.showlines.proofs.ReadLaws.{shown-refused, shown_read}
use Rattle.showlines.proofs.put_read.Goals as goal

pub returns-then-a-ne-READ : goal.returns-then-a-ne-READ
returns-then-a-ne-READ c =
    let a = c.args in
    wrote_as c.answer_line.ensures (sym (shown-refused a.table.now a.stream.now (exited a.a a.controls.now a.rows.now) (λ e. omega arith)))

pub put_slices-requires : goal.put_slices-requires
put_slices-requires c = record { lent = c.requires.lent; some_left = omega (arith, c.well_formed); few = c.requires.few (omega arith) }

pub returns : goal.returns
returns c =
    let a = c.args in
    wrote_as c.put_slices.ensures
    (ap (λ (k : Reading). slices_text a.table.now a.stream.now a.controls.now a.rows.now (counts_of k a.a)) c.reading_kind.ensures
    ∙ sym (shown_read a.table.now a.stream.now (exited a.a a.controls.now a.rows.now) (omega arith)))
