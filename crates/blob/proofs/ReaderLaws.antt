-- What the reader of each layout comes to, by the first of its refusals or by its reading.
use Prim.Native.Nat.{ℕ, ◌≤◌, ◌<◌}
use mathlib.Core.Path.{◌≡◌, sym, ap, ◌∙◌}
use mathlib.Core.Bool.{true, false}
use mathlib.Core.List.{List}
use mathlib.Core.Option.{some}
use lib.ListN.{length}
use borrow.Author.Tests.{lt-ltb, le-ltb}
use Rattle.rules.specs.Lists.{concat}
use Rattle.rules.specs.Answer.{refusal, longest}
use Rattle.rules.specs.CodeTable.{well_formed_lem}
use Rattle.rules.specs.Access2000.{stream_of}
use Rattle.rules.specs.ReadLater.{read_later_lem}
use Rattle.rules.specs.Blob.{speaks2000, is2000, read_by, outcome2000, outcome_later, exit2000, exit_later}
use Rattle.rules.specs.declared.Answer.{Answer}
use Rattle.rows.specs.Judge.{Exits}
use Rattle.blob.specs.Exit.{exited}

-- ---- the reader of Access 2000 streams
module _ (t s : List ℕ) {cs ps : List ℕ} where
  pub long_2000 : longest < length s → {a : Answer} → a ≡ refusal 5 → exited a cs ps ≡ exit2000 t s cs ps
  unfolding exit2000 outcome2000 concat
  long_2000 h e = ap (λ x. exited x cs ps) e ∙ sym (rw (lt-ltb longest (length s) h))

  pub bad_table_2000 : length s ≤ longest → well_formed_lem t ≡ false → {a : Answer} → a ≡ refusal 8 → exited a cs ps ≡ exit2000 t s cs ps
  unfolding exit2000 outcome2000 concat
  bad_table_2000 h w e = ap (λ x. exited x cs ps) e ∙ sym (rw (le-ltb longest (length s) h, w))

  module _ (h : length s ≤ longest) (w : well_formed_lem t ≡ true) where
    pub other_2000 : is2000 t s ≡ false → {a : Answer} → a ≡ refusal 15 → exited a cs ps ≡ exit2000 t s cs ps
    unfolding exit2000 outcome2000 concat
    other_2000 o e = ap (λ x. exited x cs ps) e ∙ sym (rw (le-ltb longest (length s) h, w, o))

module _ (t s cs ps : List ℕ) (h : length s ≤ longest) (w : well_formed_lem t ≡ true) where
  pub read_2000_lem : is2000 t s ≡ true → {a : Answer} {cs' ps' : List ℕ} → Exits (read_by t s (stream_of s)) cs ps a cs' ps' → exited a cs' ps' ≡ exit2000 t s cs ps
  unfolding exit2000 outcome2000
  read_2000_lem o e = e ∙ sym (rw (le-ltb longest (length s) h, w, o))

-- ---- the reader of later streams
module _ (layout : ℕ) (s : List ℕ) {cs ps : List ℕ} where
  pub long-later : longest < length s → {a : Answer} → a ≡ refusal 5 → exited a cs ps ≡ exit_later layout s cs ps
  unfolding exit_later outcome_later concat
  long-later h e = ap (λ x. exited x cs ps) e ∙ sym (rw (lt-ltb longest (length s) h))

  module _ (h : length s ≤ longest) where
    pub other-later : speaks2000 layout s ≡ true → {a : Answer} → a ≡ refusal 15 → exited a cs ps ≡ exit_later layout s cs ps
    unfolding exit_later outcome_later concat
    other-later o e = ap (λ x. exited x cs ps) e ∙ sym (rw (le-ltb longest (length s) h, o))

module _ (layout : ℕ) (s cs ps : List ℕ) (h : length s ≤ longest) where
  pub read-later : speaks2000 layout s ≡ false → {a : Answer} {cs' ps' : List ℕ} → Exits (some (read_later_lem s)) cs ps a cs' ps' → exited a cs' ps' ≡ exit_later layout s cs ps
  unfolding exit_later outcome_later
  read-later o e = e ∙ sym (rw (le-ltb longest (length s) h, o))
