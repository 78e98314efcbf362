-- What is printed of a table, by what the code has found.
use mathlib.Core.Path.{◌≡◌, refl, sym, ap, ◌∙◌}
use mathlib.Core.Bool.{Bool, true, false}
use mathlib.Core.List.{List}
use Prim.Native.Nat.{ℕ, ◌≤◌, ◌<◌}
use native.Mathlib.Omega.{arith}
use lib.ListN.{length, take}
use Rattle.rules.specs.CodeTable.{well_formed_lem}
use Rattle.listing.proofs.Placed.{held}
use Rattle.tabletext.specs.Text.{table_text}
use Rattle.tabletext.specs.Input.{Began}
use Rattle.tabletext.proofs.Told.{told}
use Rattle.joinlaws.proofs.JoinedLaws.{at_most}
use Rattle.tabletext.proofs.Longest.{longest-table}
use Rattle.tablebreak.specs.declared.Break.{Break}
use Rattle.tablebreak.specs.Rules.{longest, break_of}
use Rattle.tablewords.specs.Words.{break_text}
use Rattle.tableshow.specs.Shown.{shown_text, longest_shown, ShownIn, ShowReady}
use Rattle.tablebreak.proofs.Turns.{over}
use Rattle.tablebreak.proofs.Found.{named, unnamed}
use Rattle.tablewords.proofs.Longest.{Words32, longest_break}

formed-shown : (t : List ℕ) → well_formed_lem t ≡ true → shown_text t ≡ table_text t
unfolding shown_text
formed-shown t e = rw e

broken-shown : (t : List ℕ) → well_formed_lem t ≡ false → shown_text t ≡ break_text (break_of t)
unfolding shown_text
broken-shown t e = rw e

-- ---- a table longer than any that is well formed
long-broken : (t : List ℕ) → longest < length t → (w : Bool) → well_formed_lem t ≡ w → well_formed_lem t ≡ false
long-broken t h true e = absurd (omega (arith, at_most t e))
long-broken t h false e = e

long-shown : (t u : List ℕ) → longest < length t → longest < length u → shown_text t ≡ shown_text u
long-shown t u h g =
    let a = long-broken t h (well_formed_lem t) refl in
    let b = long-broken u g (well_formed_lem u) refl in
    broken-shown t a ∙ ap break_text (over t a h ∙ sym (over u b g)) ∙ sym (broken-shown u b)

-- what is written into a buffer that has room is what is shown of all
pub printed : {t o new input : List ℕ} {e : ℕ} → ShowReady input o → ShownIn o t new e → (all : List ℕ) → Began (length input) t all → take e new ≡ shown_text all
printed ready shown all b = held shown.wrote (omega (arith, shown.short, ready.room)) ∙ told longest long-shown ready.all_read b

-- ---- what the code has found
module _ (t : List ℕ) {b : Break} (is : b ≡ break_of t) where
  rule-is : b.rule ≡ (break_of t).rule
  rule-is = ap (λ (x : Break). x.rule) is

  broken-by : (b.rule ≡ 0 → ⊥) → (w : Bool) → well_formed_lem t ≡ w → well_formed_lem t ≡ false
  broken-by n true e = absurd (n (rule-is ∙ unnamed t e))
  broken-by n false e = e

  module _ (none : b.rule ≡ 0) where
    well : well_formed_lem t ≡ true
    well = named t (sym rule-is ∙ none)

    pub shows-table : shown_text t ≡ table_text t
    shows-table = formed-shown t well

    pub table_fits : length (shown_text t) ≤ longest_shown
    table_fits = rw shows-table (longest-table t well)

  module _ (some : b.rule ≡ 0 → ⊥) where
    pub shows_break : shown_text t ≡ break_text b
    shows_break = broken-shown t (broken-by some (well_formed_lem t) refl) ∙ ap break_text (sym is)

    pub break_fits : Words32 b → length (shown_text t) ≤ longest_shown
    break_fits h = rw shows_break (omega (arith, longest_break b h))
