use Rattle.std.proofs.Common.{rules, length, ◌-◌, arith}
use Rattle.listing.proofs.Placed.{within}
use Rattle.inputs.proofs.Came.{filled}
use Rattle.inputs.proofs.fill.Goals as goal

pub slice_bounds-read_full-count : goal.slice_bounds-read_full-count
slice_bounds-read_full-count c = within c.put_text-at.ensures

pub slice_bounds-read_full-start : goal.slice_bounds-read_full-start
slice_bounds-read_full-start c = let h = within c.put_text-at.ensures in search rules

pub returns : goal.returns
returns c =
    let p = c.put_text-at in
    let r = c.read_full in
    filled p.ensures (length p.new.out - p.result) r.new.buf r.result (omega (arith, within p.ensures))
