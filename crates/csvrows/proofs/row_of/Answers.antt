use mathlib.Core.Path.{refl}
use Rattle.csvrows.proofs.Steps.{row-there}
use Rattle.csvrows.proofs.row_of.Goals as goal

pub returns-then-at-rows : goal.returns-then-at-rows
returns-then-at-rows c =
    row-there c.args.rows.now c.args.i _ refl refl refl refl refl refl refl
