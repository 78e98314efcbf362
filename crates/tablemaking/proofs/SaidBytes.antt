-- The table that a text says consists of bytes.
use Prim.Native.Nat.{ℕ}
use mathlib.Core.Path.{◌≡◌}
use mathlib.Core.List.{List}
use Rattle.rules.specs.Bytes.{Bytes}
use Rattle.joinlaws.proofs.BytesLaws.{table-bytes}
use Rattle.tablemaking.specs.Judged.{judged}
use Rattle.tablemaking.specs.Made.{table_said}
use Rattle.tablemaking.proofs.Formed.{headers_in, scopes_in, counts, few-headers, said_good, said_fits}

pub said-bytes : (s : List ℕ) → (judged s).error ≡ 0 → Bytes (table_said s)
unfolding table_said
said-bytes s e = table-bytes (judged s).layout (headers_in s) (scopes_in s) (counts s e).layout (few-headers s e) (said_good s e) (said_fits s e)
