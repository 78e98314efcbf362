-- Which entries of the top list are skipped.
use Prim.Native.Nat.{ℕ, ◌+◌}
use mathlib.Core.Path.{◌≡◌, refl, sym, ap, ◌∙◌}
use mathlib.Core.Bool.{true, false}
use mathlib.Core.List.{List}
use mathlib.Core.Option.{Option, none, some}
use Rattle.std.proofs.Common as code
use Rattle.rules.specs.Lists.{◌>>=◌}
use Rattle.rules.specs.Bytes.{half_at_lem}
use Rattle.rules.specs.Tree.{Entry, Entries, plain, parent, levels_at, is_section, is_reported}
use Rattle.rules.specs.Access2000.{Prop, run_at, head_at_lem, close_at, entry_at}
use Rattle.rules.proofs.ListLaws.{Every, every_when}
use Rattle.cursor.specs.Walk.{entry_by}
use Rattle.cursor2000.specs.Steps.{step_at, Skips}
use Rattle.cursor2000.proofs.StepLaws.{entry-same}

abbrev Reported : Entry Prop × ℕ → Type 0
Reported x = is_reported x.0 ≡ true

abbrev Below : Type 0
Below = ℕ → ℕ → Option (Entries Prop × ℕ)

-- how a list below the top list is read
abbrev deep : List ℕ → Below
deep s = levels_at (entry_by (step_at s)) 255

-- an entry that is read is reported
kept : (s : List ℕ) (p : ℕ) {r : code.Option ℕ} → Every Reported (entry_at s (deep s) p) → r ≡ code.None → Skips s p r
kept s p h z = record { over = λ next e. cc; kept = λ e. rw (entry-same s (deep s) p) at h }

close_section : (below : Below) (type : ℕ) (ps : List Prop) (h : Option ℕ × ℕ) → is_section type ≡ true → Every Reported (close_at below type ps h)
unfolding close_at
close_section below type ps h e = go h.0
  where
    go : (o : Option ℕ) → Every Reported (elim o [ none ↦ some (plain type ps, h.1) | some n ↦ below n h.1 >>= λ l. some (parent type ps l.0, l.1) ])
    go none = e
    go (some n) = every_when Reported (below n h.1) _ λ l _. refl

module _ (s : List ℕ) (p : ℕ) {r : code.Option ℕ} where
  pub skip_short : half_at_lem s p ≡ none → r ≡ code.None → Skips s p r
  unfolding entry_at
  skip_short h = kept s p (rw h tt)

  module _ {type : ℕ} (h : half_at_lem s p ≡ some type) where
    pub skip_section : is_section type ≡ true → r ≡ code.None → Skips s p r
    unfolding entry_at
    skip_section e = kept s p
        (rw h (every_when Reported (run_at s (p + 2)) _ λ x _. every_when Reported (head_at_lem s x.1) _ λ h _. close_section (deep s) type x.0 h e))

    pub skip_run_bad : run_at s (p + 2) ≡ none → r ≡ code.None → Skips s p r
    unfolding entry_at
    skip_run_bad u = kept s p (rw (h, u) tt)

    module _ {ps : List Prop} {q : ℕ} (u : run_at s (p + 2) ≡ some (ps, q)) where
      pub skip_head_bad : head_at_lem s q ≡ none → r ≡ code.None → Skips s p r
      unfolding entry_at
      skip_head_bad o = kept s p (rw (h, u, o) tt)

      pub skip_listed : {m e : ℕ} → head_at_lem s q ≡ some (some m, e) → r ≡ code.None → Skips s p r
      unfolding entry_at close_at
      skip_listed {m = m} {e = e} o = kept s p (rw (h, u, o) (every_when Reported (deep s m e) _ λ l _. refl))

      pub skip_plain : {e : ℕ} → head_at_lem s q ≡ some (none, e) → is_section type ≡ false → r ≡ code.Some e → Skips s p r
      unfolding entry_at close_at
      skip_plain {e = e} o b k =
          let z : entry_at s (deep s) p ≡ some (plain type ps, e) = rw (h, u, o) in
          record {
            over = λ next m.
                let n : e ≡ next = cc in
                (plain type ps, sym (entry-same s (deep s) p) ∙ z ∙ ap (λ y. some (plain type ps, y)) n, b);
            kept = λ m. cc;
          }
