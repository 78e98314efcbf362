-- Which panels come out otherwise: of every call of differences(older, newer, stream, rows), and of any two of read_blob beside it.
use Rattle.std.specs.Prelude.{◌*◌, ◌≡◌, true, ◌↔◌, drop}
use Rattle.rules.specs.Rows.{difference_width}
use Rattle.rules.specs.Blob.{Exit, is2000}
use Rattle.rules.specs.Differences.{DifferencesExit, differences_exit}
use Rattle.rules.specs.declared.Answer.{Answer}
use Rattle.claims.specs.Demand1.{Refused}
use Rattle.claims.specs.Differing.{DifferencesAnswer, Differing}
use Rattle.calls.specs.Always.{Always, OneResult, Fn, Every, Call, handed, seen}
use Rattle.calls.specs.Functions.{Blob, Differ}

pub record ListDifferences (f : Fn Differ DifferencesExit) : Type 2 where
  pub met : Always f.function f.function.says
  -- what is seen is what the definition says: the answer, and every word of the rows
  pub is_exit : Every f (λ a seen. seen ≡ differences_exit a.older a.newer a.stream a.rows)
  -- each answer exactly when its sentence holds
  pub answers : Every f (λ a seen. (x : Answer) → DifferencesAnswer a.older a.newer a.stream a.rows x ↔ (x ≡ seen.answer))
  -- a refusal writes nothing, and what stands after the list stays
  pub rows_stay : Every f (λ a seen. Refused seen.answer → seen.rows ≡ a.rows)
  pub after : Every f (λ a seen. seen.answer.number ≡ 0
      → drop (seen.answer.first * difference_width) seen.rows ≡ drop (seen.answer.first * difference_width) a.rows)
  -- "A later stream gives none."
  pub later : Every f (λ a seen. seen.answer.number ≡ 0 → ¬ (is2000 a.older a.stream ≡ true) → seen.answer.first ≡ 0)
  pub one_result : OneResult f.function
  pub allows : (a : Differ) → (c : Call f) × (handed c ≡ a)

-- ---- beside a reader
-- two readings of one stream, by the older table and by the newer
pub record Beside (d : Differ) (a b : Blob) : Type 0 where
  pub older_table : a.table ≡ d.older
  pub newer_table : b.table ≡ d.newer
  pub older_stream : a.stream ≡ d.stream
  pub newer_stream : b.stream ≡ d.stream

-- into slices that are alike
pub record SameSlices (a b : Blob) : Type 0 where
  pub controls : a.controls ≡ b.controls
  pub properties : a.properties ≡ b.properties

pub record DifferencesRead (reader : Fn Blob Exit) (f : Fn Differ DifferencesExit) : Type 0 where
  -- a property is listed exactly when its row differs, and exactly when the newer table has learnt its code; what a row says is what the two readings show
  pub differing : (d : Call f) (a b : Call reader) → Beside (handed d) (handed a) (handed b) → (seen d).answer.number ≡ 0 → is2000 (handed d).older (handed d).stream ≡ true
      → (seen a).answer.number ≡ 0 → (seen b).answer.number ≡ 0 → Differing (handed d).older (handed d).newer (handed d).stream (seen a) (seen b) (seen d)
  -- an empty list means that the two conversions are word for word the same, whatever the room
  pub nothing : (d : Call f) → (seen d).answer.number ≡ 0
      → ((seen d).answer.first ≡ 0) ↔ ((a b : Call reader) → Beside (handed d) (handed a) (handed b) → SameSlices (handed a) (handed b) → seen a ≡ seen b)
