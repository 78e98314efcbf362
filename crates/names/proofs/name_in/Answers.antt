use mathlib.Core.Path.{◌∙◌}
use native.Mathlib.Omega.{arith}
use Rattle.names.proofs.Directory.{ids_there, ids_ascend, name-is, no_name}
use Rattle.names.proofs.name_in.Goals as goal

pub offset_bounds-index-rows : goal.offset_bounds-index-rows
offset_bounds-index-rows c = omega (arith, ids_there c.requires.lent c.requires.stand)

pub slice_bounds-place_in-end : goal.slice_bounds-place_in-end
slice_bounds-place_in-end c = ids_there c.requires.lent c.requires.stand

pub place_in-i-requires : goal.place_in-i-requires
place_in-i-requires c = ids_ascend c.requires.lent c.requires.stand

pub returns-then-i-rows : goal.returns-then-i-rows
returns-then-i-rows c =
    c.row_name.ensures ∙ name-is c.requires.lent c.requires.stand c.args.id c.place_in-i.result c.place_in-i.ensures (omega arith)

pub returns : goal.returns
returns c =
    c.nothing_of.ensures ∙ no_name c.requires.lent c.requires.stand c.args.id c.place_in-i.result c.place_in-i.ensures (omega arith)
