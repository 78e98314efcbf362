-- The bytes that a top list takes.
use Prim.Native.Nat.{ℕ, ◌+◌, ◌≤◌}
use mathlib.Core.Path.{◌≡◌, sym, ◌∙◌}
use mathlib.Core.List.{List}
use Rattle.std.proofs.Common.{Option, Some}
use Rattle.rules.specs.Tree.{levels}
use Rattle.rules.specs.Access2000.{entries_at}
use Rattle.rows.specs.Counting.{tally_top}
use Rattle.rows.specs.declared.Tally.{Tally}
use Rattle.rows.proofs.TakenLaws.{tally-room, top_grows}
use Rattle.walk2000.proofs.Grows.{entries_grow}

pub top_room : (s : List ℕ) (m p : ℕ) {r : Option Tally} {y : Tally} → r ≡ tally_top (entries_at levels s m p) → r ≡ Some y → p + y.controls + y.props ≤ y.next
top_room s m p {y = y} re k = tally-room p (tally_top (entries_at levels s m p)) y (top_grows p (entries_at levels s m p) (entries_grow levels s m p)) (sym re ∙ k)
