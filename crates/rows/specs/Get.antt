-- The words of a row by their names; a word that the row lacks is 0.
use Rattle.std.specs.Prelude.{ℕ, zero, suc, ◌+◌, ◌≤◌, ◌<◌, ◌≡◌, List, [], ◌∷◌}
use Rattle.rules.specs.Rows.{property_width, row_at}
use Rattle.rules.specs.Listing.{word}
use Rattle.rules.specs.declared.Property.{Property}
use Rattle.rows.specs.declared.ControlRow.{ControlRow}
use Rattle.rows.specs.declared.InfoRow.{InfoRow}

-- a row has a word i, and no row has more than eight
abbrev pub InRow : ℕ → ℕ → Type 0
InRow width i = (i < width) × (width ≤ 8)

pub record ControlOf (row : List ℕ) (r : ControlRow) : Type 0 where
  pub type-code : r.type_code ≡ word row 0
  pub mark : r.mark ≡ word row 1
  pub start : r.start ≡ word row 2
  pub size : r.size ≡ word row 3
  pub first : r.first ≡ word row 4
  pub count : r.count ≡ word row 5
  pub level : r.level ≡ word row 6
  pub parent : r.parent ≡ word row 7

pub record PropertyOf (row : List ℕ) (p : Property) : Type 0 where
  pub id : p.id ≡ word row 0
  pub mark : p.value.mark ≡ word row 1
  pub low : p.value.low ≡ word row 2
  pub high : p.value.high ≡ word row 3
  pub start : p.start ≡ word row 4
  pub size : p.size ≡ word row 5

pub record InfoOf (row : List ℕ) (r : InfoRow) : Type 0 where
  pub type-code : r.type_code ≡ word row 0
  pub index : r.index ≡ word row 1
  pub start : r.start ≡ word row 2
  pub size : r.size ≡ word row 3
  pub cut : r.cut ≡ word row 4

-- ---- properties by their rows: of one, and of n from row k on
abbrev pub shown_by_lem : List ℕ → Property
shown_by_lem row = record { id = word row 0; value = record { mark = word row 1; low = word row 2; high = word row 3 }; start = word row 4; size = word row 5 }

unfoldable pub properties_from : List ℕ → ℕ → ℕ → List Property
properties_from rows k zero = []
properties_from rows k (suc n) = shown_by_lem (row_at property_width k rows) ∷ properties_from rows (k + 1) n
