-- The first source among property rows.
use Rattle.std.specs.Prelude.{ℕ, ◌+◌, ◌<◌, ◌≡◌, List, [], ◌∷◌, Option, MatchOption}
use Rattle.rules.specs.Lists.{keep}
use Rattle.rules.specs.Rows.{property_width, row_at}
use Rattle.rules.specs.Panel.{is_source}
use Rattle.rows.specs.Get.{shown_by_lem}
use Rattle.panel.specs.ByRows.{between}

-- row `at` is the first source of the rows from one to another
pub record SourceAt (ps : List ℕ) (from to at : ℕ) : Type 0 where
  pub within : at < to
  pub sources : keep is_source (between ps from to) ≡ shown_by_lem (row_at property_width at ps) ∷ keep is_source (between ps (at + 1) to)

abbrev pub NextSource : List ℕ → ℕ → ℕ → Option ℕ → Type 0
NextSource ps from to r = MatchOption r (keep is_source (between ps from to) ≡ []) (SourceAt ps from to)
