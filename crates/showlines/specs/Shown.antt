-- What is shown of a Blob, by itself and with the types of TypeInfo.
use Rattle.std.specs.Prelude.{ℕ, ◌+◌, ◌≤◌, ◌≡◌, cond, List, ◌∷◌, [], eqb}
use Rattle.rules.specs.Lists.{text}
use Rattle.rules.specs.Digits.{decimal}
use Rattle.rules.specs.CodeTable.{layout}
use Rattle.rules.specs.Blob.{Exit, exit, exit_later}
use Rattle.rules.specs.TypeInfo.{TypeInfoExit, type_info_exit}
use Rattle.rules.specs.Pairing.{pair_exit}
use Rattle.rules.specs.Listing.{line, answer_line}
use Rattle.rules.specs.declared.Answer.{Answer}
use Rattle.showlines.specs.Lines.{reading_kind}
use Rattle.names.specs.Lookup.{Lent}
use Rattle.csvrows.specs.Rows.{most, many_from}
use Rattle.showlines.specs.Rows.{slices_text}
use Rattle.showlines.specs.declared.Reading.{Reading}
use Rattle.showlines.specs.declared.Counts.{Counts}

abbrev pub counts_of : Reading → Answer → Counts
counts_of reading a = record { reading = reading; controls = a.first; properties = a.second; own = a.third }

-- by what a reader of the stream hands back: a refusal is the line of its answer
unfoldable pub shown_by_lem : List ℕ → List ℕ → Exit → List ℕ
shown_by_lem t s e = cond (eqb e.answer.number 0) (slices_text t s e.controls e.properties (counts_of (reading_kind t s) e.answer)) (answer_line e.answer)

-- what is asked before: the names are lent, and the rows that the controls of a reading tell are no more than can be counted
pub record ReadReady (index letters controls : List ℕ) (a : Answer) : Type 0 where
  pub lent : Lent index letters
  pub few : a.number ≡ 0 → a.third + many_from controls 0 a.first ≤ most

-- by the slices lent for controls and properties
abbrev pub shown_blob : List ℕ → List ℕ → List ℕ → List ℕ → List ℕ
shown_blob t s controls properties = shown_by_lem t s (exit t s controls properties)

-- ---- with TypeInfo
-- the controls with the types that TypeInfo has for their names
abbrev pub paired_exit : List ℕ → List ℕ → TypeInfoExit → Exit → Exit
paired_exit s info i e = record {
  answer = e.answer;
  controls = (pair_exit s e.controls e.answer.first info i.rows i.answer.first).controls;
  properties = e.properties;
}

-- `typeinfo`, the number and three counts: TypeInfo that is refused
unfoldable pub info_line : Answer → List ℕ
info_line a = line (text "typeinfo" ∷ decimal a.number ∷ decimal a.first ∷ decimal a.second ∷ decimal a.third ∷ [])

abbrev pub paired_by : List ℕ → List ℕ → List ℕ → TypeInfoExit → Exit → List ℕ
paired_by t info s i e = cond (eqb i.answer.number 0) (shown_by_lem t s (paired_exit s info i e)) (info_line i.answer)

-- the Blob is one of the later layout, by the table's layout byte
unfoldable pub shown_paired : List ℕ → List ℕ → List ℕ → List ℕ → List ℕ → List ℕ → List ℕ
shown_paired t info s infos controls properties = paired_by t info s (type_info_exit info infos) (exit_later (layout t) s controls properties)
