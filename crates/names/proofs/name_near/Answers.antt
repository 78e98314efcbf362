use mathlib.Core.Path.{◌∙◌}
use native.Mathlib.Omega.{arith}
use Rattle.names.proofs.Directory.{ids_there, ids_ascend, name-is, no_name}
use Rattle.names.proofs.name_near.Goals as goal

pub offset_bounds-index-rows : goal.offset_bounds-index-rows
offset_bounds-index-rows c = omega (arith, ids_there c.requires.0.lent c.requires.0.stand)

pub slice_bounds-place_near-end : goal.slice_bounds-place_near-end
slice_bounds-place_near-end c = ids_there c.requires.0.lent c.requires.0.stand

pub place_near-i-requires : goal.place_near-i-requires
place_near-i-requires c = ids_ascend c.requires.0.lent c.requires.0.stand

pub returns-then-i-rows : goal.returns-then-i-rows
returns-then-i-rows c =
    c.row_name.ensures ∙ name-is c.requires.0.lent c.requires.0.stand c.args.id c.place_near-i.result c.place_near-i.ensures (omega arith)

pub returns : goal.returns
returns c =
    c.nothing_of.ensures ∙ no_name c.requires.0.lent c.requires.0.stand c.args.id c.place_near-i.result c.place_near-i.ensures (omega arith)
