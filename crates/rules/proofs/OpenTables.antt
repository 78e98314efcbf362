-- The code table, and two of them joined.
use Prim.Native.Nat.{ℕ}
use Rattle.rules.specs.Lists.{same, put, merge, agree}
use Rattle.rules.specs.CodeTable.{codes_at, ties_at, scopes_at, ties_ok, row_count_lem, scopes_fit, well_formed_lem, scope_rows, row_of}
use Rattle.rules.specs.Join.{table_bytes, same_head_lem, joined, join_exit}
use Rattle.rules.proofs.OpenTexts.{texts_open}

unfoldable pub tables_open : ℕ
unfolding codes_at ties_at scopes_at ties_ok row_count_lem scopes_fit well_formed_lem scope_rows row_of
tables_open = 0

unfoldable pub join_open : ℕ
unfolding texts_open tables_open same put merge agree table_bytes same_head_lem joined join_exit
join_open = 0
