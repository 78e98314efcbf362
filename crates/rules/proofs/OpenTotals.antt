-- Totals.
use Prim.Native.Nat.{ℕ}
use Rattle.rules.specs.Lists.{same, distinct, how_many, add_up}
use Rattle.rules.specs.Totals.{type_names, types_counted, adds, added_by, zeros, at, sums, sum, within, totals_exit}
use Rattle.rules.proofs.OpenNames.{names_open}
use Rattle.rules.proofs.OpenStreams.{blob_open}

unfoldable pub totals_open : ℕ
unfolding blob_open names_open same distinct how_many add_up type_names types_counted adds added_by zeros at sums sum within totals_exit
totals_open = 0
