-- What the functions ask, and what they find, in the terms of the definition.
use Rattle.std.specs.Prelude.{ℕ, ◌+◌, ◌*◌, ◌<◌, ◌^◌, ◌≡◌, Bool, true, not, ◌&&◌, List, Option, Some, None, eqb}
use Rattle.std.proofs.Math.Option as maybe
use Rattle.rules.specs.Told.{told_as}
use Rattle.rules.specs.CodeTable.{Tie, ties_at, well_formed_lem}
use Rattle.coderows.specs.Look as look
use Rattle.coderows.specs.declared.Tie as sought
use Rattle.tablebytes.specs.declared.Row.{Row}
use Rattle.succession.specs.declared.Lack as told
use Rattle.succession.specs.Lacks.{Lack}

-- rows of the one table, and those of the other in the same scope: their ids ascend
pub record TwoRows (start n : ℕ) (other : List ℕ) (from rows : ℕ) : Type 0 where
  pub ends : start + 4 * n < 2 ^ 59
  pub theirs-end : from + 4 * rows < 2 ^ 60
  pub sorted : look.Sorted (ties_at other from rows)

-- a well-formed table, and the list of its scopes
pub record ListedTable (t xs : List ℕ) : Type 0 where
  pub listed : look.Listed t xs
  pub formed : well_formed_lem t ≡ true

abbrev pub row_from_lem : ℕ → ℕ → ℕ → Row
row_from_lem id target kind = record { id = id; target = target; kind = kind }

abbrev pub as_row : Tie → Row
as_row r = row_from_lem r.id r.target r.kind

-- what was found for a row's id is this row; or nothing, where that doesn't count
unfoldable pub is_held : Bool → Row → Option sought.Tie → Bool
is_held missing r None = not missing
is_held missing r (Some o) = eqb o.target r.target && eqb o.kind r.kind

abbrev pub lack_of : Lack → told.Lack
lack_of l = record { kind = l.kind; code = l.code; row = as_row l.row; other = look.as_row l.other }

unfoldable pub as_lack : maybe.Option Lack → Option told.Lack
as_lack l = told_as lack_of l
