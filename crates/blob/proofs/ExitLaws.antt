-- What a Blob comes to, by the first of its refusals or by its layout.
use Prim.Native.Nat.{ℕ, ◌≤◌, ◌<◌}
use mathlib.Core.Path.{◌≡◌, sym, ap, ◌∙◌}
use mathlib.Core.Bool.{true, false}
use mathlib.Core.List.{List}
use mathlib.Core.Option.{some}
use lib.ListN.{length}
use borrow.Author.Tests.{lt-ltb, le-ltb}
use Rattle.rules.specs.Lists.{concat}
use Rattle.rules.specs.Answer.{refusal, longest}
use Rattle.rules.specs.CodeTable.{well_formed_lem}
use Rattle.rules.specs.Access2000.{stream_of}
use Rattle.rules.specs.ReadLater.{read_later_lem}
use Rattle.rules.specs.Blob.{is2000, read_by, reading_of, outcome, exit}
use Rattle.rules.specs.declared.Answer.{Answer}
use Rattle.rows.specs.Judge.{Exits}
use Rattle.blob.specs.Exit.{exited}

module _ (t s cs ps : List ℕ) where
  pub five : longest < length s → (a : Answer) → a ≡ refusal 5 → exited a cs ps ≡ exit t s cs ps
  unfolding exit outcome concat
  five h a e = ap (λ x. exited x cs ps) e ∙ sym (rw (lt-ltb longest (length s) h))

  pub eight : length s ≤ longest → well_formed_lem t ≡ false → (a : Answer) → a ≡ refusal 8 → exited a cs ps ≡ exit t s cs ps
  unfolding exit outcome concat
  eight h w a e = ap (λ x. exited x cs ps) e ∙ sym (rw (le-ltb longest (length s) h, w))

  module _ (h : length s ≤ longest) (w : well_formed_lem t ≡ true) (a : Answer) (cs' ps' : List ℕ) where
    pub by_2000 : is2000 t s ≡ true → Exits (read_by t s (stream_of s)) cs ps a cs' ps' → exited a cs' ps' ≡ exit t s cs ps
    unfolding exit outcome reading_of
    by_2000 o e = e ∙ sym (rw (le-ltb longest (length s) h, w, o))

    pub by-later : is2000 t s ≡ false → Exits (some (read_later_lem s)) cs ps a cs' ps' → exited a cs' ps' ≡ exit t s cs ps
    unfolding exit outcome reading_of
    by-later o e = e ∙ sym (rw (le-ltb longest (length s) h, w, o))
