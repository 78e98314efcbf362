-- What a read of the table gives, and its tests as they go on from the middle.
use Rattle.std.specs.Prelude.{ℕ, ◌+◌, ◌*◌, ◌^◌, ◌<◌, List, map, Bool, ◌&&◌, ltb, eqb, length}
use Rattle.rules.specs.Lists.{all, ascends}
use Rattle.rules.specs.Bytes.{byte, u16}
use Rattle.rules.specs.CodeTable.{Tie, id_of, key, scopes_at, tie_ok, scope_ok, row_count_lem}
use Rattle.numbers.specs.Reads.{Small}
use Rattle.codetable.specs.declared.RowRead.{RowRead}

-- the numbers of the row at a place
pub record ReadsRow (t : List ℕ) (at : ℕ) (r : RowRead) : Type 0 where
  pub id : Small (byte t at) 256 r.id
  pub target : Small (u16 t (at + 1)) 65536 r.target
  pub kind : Small (byte t (at + 3)) 256 r.kind

-- the contents of n scopes and their bodies start early enough
pub record ScopesSmall (start bodies n : ℕ) : Type 0 where
  pub contents-small : start + 5 * n < 2 ^ 32
  pub bodies_small : bodies < 2 ^ 32

-- ---- well-formedness of what is left, from the least id or key that may come next
-- `least` is one more than the id before it, which is at most 0xFC
unfoldable pub ties_from : ℕ → List Tie → Bool
ties_from least rs = ltb least 0xFE && ascends least (map id_of rs) && all tie_ok rs

unfoldable pub scopes_from : List ℕ → ℕ → ℕ → ℕ → ℕ → Bool
scopes_from t least at body n =
    ascends least (map key (scopes_at t at body n))
    && all scope_ok (scopes_at t at body n)
    && eqb (body + 4 * row_count_lem (scopes_at t at body n)) (length t)
