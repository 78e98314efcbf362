use native.Mathlib.Omega.{arith}
use mathlib.Core.Path.{sym, ap, ◌∙◌}
use mathlib.Core.List.{List}
use Prim.Native.Nat.{ℕ}
use lib.ListN.{length-replicate}
use lib.Seq.{length-take-le}
use Rattle.text.proofs.Chain.{wrote_as}
use Rattle.csvrows.specs.Rows.{tails_text}
use Rattle.csvrows.proofs.Steps.{fields-inside, fields-are, tails_are}
use Rattle.csvrows.proofs.put_owned.Goals as goal

pub slice_bounds-fields-end : goal.slice_bounds-fields-end
slice_bounds-fields-end c =
    omega (arith, fields-inside (length-replicate {A = ℕ} 16 0) c.requires.short c.put_owner-size.ensures)

pub slice_bounds-put_rows-end : goal.slice_bounds-put_rows-end
slice_bounds-put_rows-end c =
    sym (length-take-le _ _ (omega (arith, fields-inside (length-replicate {A = ℕ} 16 0) c.requires.short c.put_owner-size.ensures, c.put_owner-size.auto.out, length-replicate {A = ℕ} 16 0)))

pub returns : goal.returns
returns c =
    let a = c.args in
    wrote_as c.put_rows.ensures
    (ap (λ (l : List ℕ). tails_text a.stream.now l a.rows.now a.run.first a.run.count) (fields-are (length-replicate {A = ℕ} 16 0) c.requires.short c.put_owner-size.ensures)
    ∙ tails_are a.stream.now a.owner a.rows.now a.run.count a.run.first)
