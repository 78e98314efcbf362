use Prim.Native.Nat.{ℕ, ◌+◌, ◌/◌, ◌<◌}
use mathlib.Core.List.{List}
use native.Mathlib.Omega.{arith}
use lib.ListN.{length, get_or}
use Rattle.nametables.specs.Directory.{all_names}
use Rattle.names.specs.Lookup.{LentRow, name_at}
use Rattle.names.proofs.Directory.{NameIn, size, letters-at}
use Rattle.names.proofs.row_name.Goals as goal

module _ {index letters : List ℕ} {row : ℕ} (lent : LentRow index letters row) where
  -- an index of so many numbers has the row's start and its end
  fits : length index / 2 + row + 1 < length index
  fits = omega (arith, size lent.lent, lent.there)

  the_name : NameIn letters (name_at all_names row) (get_or index (length index / 2 + row) 0) (get_or index (length index / 2 + row + 1) 0)
  the_name = letters-at lent.lent row lent.there

pub overflow_add-at : goal.overflow_add-at
overflow_add-at c = record { fits = omega (arith, fits c.requires) }

pub offset_bounds-index-at : goal.offset_bounds-index-at
offset_bounds-index-at c = record { fits = omega (arith, fits c.requires) }

pub bounds-index-at : goal.bounds-index-at
bounds-index-at c = omega (arith, fits c.requires)

pub overflow_add-end : goal.overflow_add-end
overflow_add-end c = record { fits = omega (arith, fits c.requires) }

pub offset_bounds-index-at-2 : goal.offset_bounds-index-at-2
offset_bounds-index-at-2 c = record { fits = omega (arith, fits c.requires) }

pub bounds-index-at-2 : goal.bounds-index-at-2
bounds-index-at-2 c = fits c.requires

pub slice_bounds-result-count : goal.slice_bounds-result-count
slice_bounds-result-count c = (the_name c.requires).ordered

pub slice_bounds-result-start : goal.slice_bounds-result-start
slice_bounds-result-start c = (the_name c.requires).ordered

pub slice_bounds-result-end : goal.slice_bounds-result-end
slice_bounds-result-end c = (the_name c.requires).inside

pub returns : goal.returns
returns c = (the_name c.requires).is
