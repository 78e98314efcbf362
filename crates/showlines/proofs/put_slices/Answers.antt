use Rattle.std.proofs.Common.{ℕ, ap, arith}
use Rattle.text.proofs.Chain.{◌⨟◌, wrote_as}
use Rattle.showlines.specs.Lines.{first_line}
use Rattle.showlines.specs.Rows.{rows_text, slices_text}
use Rattle.showlines.specs.declared.Owner.{Owner}
use Rattle.showlines.proofs.put_slices.Goals as goal

pub put_rows-p-requires : goal.put_rows-p-requires
put_rows-p-requires c = record { lent = c.requires.lent; few = omega (arith, c.requires.few) }

pub returns : goal.returns
unfolding slices_text
returns c =
    let a = c.args in
    wrote_as c.first_line-p.ensures (ap (λ (n : ℕ). first_line a.counts.reading a.counts.controls a.counts.properties n) c.unmapped-lacking.ensures)
    ⨟ c.object_line-p.ensures
    ⨟ wrote_as c.put_rows-p.ensures (ap (λ (o : Owner). rows_text a.stream.now o a.rows.now 0 a.counts.own) c.object_owner-owner.ensures)
    ⨟ c.put_controls.ensures
