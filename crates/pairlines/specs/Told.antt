-- The lines of the controls that found no row, by the rows in the lent slices.
use Rattle.std.specs.Prelude.{ℕ, ◌+◌, ◌≡◌, cond, List, [], ◌∷◌, ◌++◌, length}
use Rattle.rules.specs.Rows.{control_width, property_width, type_info_width, room}
use Rattle.text.specs.Writer.{Wrote}
use Rattle.listing.specs.Shown.{lines_to}
use Rattle.listing.specs.Written.{Written}
use Rattle.pairlines.specs.Pairs.{is_unpaired, unpaired_line, count_line, pair_printed, pair_listed, pair_most}
use Rattle.pairlines.specs.declared.Told.{Told}

-- one for each of them
unfoldable pub tally : List ℕ → List ℕ → List (List ℕ) → ℕ → List ℕ → List ℕ
tally s t infos n row = cond (is_unpaired s t infos row) (0 ∷ []) []

-- of the first n control rows of a slice
unfoldable pub unpaired_to : List ℕ → List ℕ → List (List ℕ) → ℕ → List ℕ → List ℕ
unpaired_to s t infos n words =
    lines_to (unpaired_line s t infos) control_width n words ++ count_line (length (lines_to (tally s t infos) control_width n words))

-- row n is told where it found no row
pub record Tells (s t : List ℕ) (infos : List (List ℕ)) (n : ℕ) (row old : List ℕ) (before : Told) (new : List ℕ) (after : Told) : Type 0 where
  pub wrote : Wrote old before.at (unpaired_line s t infos n row) new after.at
  pub counted : after.count ≡ before.count + length (tally s t infos n row)

-- ---- by the slices lent for TypeInfo rows, controls and properties
abbrev pub lines_in : ℕ → List ℕ → List ℕ → List ℕ → List ℕ → List ℕ → List ℕ
lines_in layout t s infos controls properties = pair_printed layout t s (room type_info_width infos) (room control_width controls) (room property_width properties)

abbrev pub listed_in_lem : List ℕ → List ℕ → List ℕ → List ℕ → List ℕ
listed_in_lem input infos controls properties = pair_listed input (room type_info_width infos) (room control_width controls) (room property_width properties)

abbrev pub most_in : List ℕ → ℕ
most_in controls = pair_most (room control_width controls)

-- the listing of both streams stands in the buffer
abbrev pub Paired : ℕ → List ℕ → List ℕ → List ℕ → List ℕ → List ℕ → List ℕ → List ℕ → ℕ → Type 0
Paired layout t s infos controls properties old new end = Written old (lines_in layout t s infos controls properties) (most_in controls) new end

-- that of an input does
abbrev pub Listed : List ℕ → List ℕ → List ℕ → List ℕ → List ℕ → List ℕ → ℕ → Type 0
Listed input infos controls properties old new end = Written old (listed_in_lem input infos controls properties) (most_in controls) new end
