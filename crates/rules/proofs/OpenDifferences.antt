-- Differences.
use Prim.Native.Nat.{ℕ}
use Rattle.rules.specs.Lists.{same}
use Rattle.rules.specs.Join.{same_head_lem}
use Rattle.rules.specs.Differences.{has_row, has_scope, succeeds, node_sites, sites_of, sites, differs, difference_row, differences_from, difference_rows, differences_answer, differences_exit}
use Rattle.rules.proofs.OpenStreams.{blob_open}

unfoldable pub differences_open : ℕ
unfolding blob_open same same_head_lem has_row has_scope succeeds node_sites sites_of sites differs difference_row differences_from difference_rows differences_answer differences_exit
differences_open = 0
