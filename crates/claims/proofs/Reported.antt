-- What is reported of a tree is what is shown of its contents, whatever the contents' own type: one law for both layouts.
use mathlib.Core.Path.{◌≡◌, sym, ap, ◌∙◌}
use mathlib.Core.Bool.{Bool, true, false, cond}
use Rattle.rules.specs.Tree.{Entry, Entries, end, more, is_reported, reported}

-- each of the top entries
abbrev pub Top : {P : Type 0} → (Entry P → Type 0) → Entries P → Type 0
Top Ok end = Unit
Top Ok (more e es) = Ok e × Top Ok es

module _ {P T Ts : Type 0} (item : Entry P → T) (items : Entries P → Ts) (one : T → Ts → Ts) (is_shown : T → Bool) (shown : Ts → Ts)
    (joined : (e : Entry P) (es : Entries P) → items (more e es) ≡ one (item e) (items es))
    (shown-none : shown (items end) ≡ items end)
    (shown-one : (i : T) (is : Ts) → shown (one i is) ≡ cond (is_shown i) (one i (shown is)) (shown is)) where
  pub shown-same : (es : Entries P) → Top (λ e. is_reported e ≡ is_shown (item e)) es → items (reported es) ≡ shown (items es)
  unfolding reported
  shown-same end h = sym shown-none
  shown-same (more e es) h = go (is_reported e) (shown-same es h.1) ∙ ap (λ b. cond b (one (item e) (shown (items es))) (shown (items es))) h.0 ∙ sym (ap shown (joined e es) ∙ shown-one (item e) (items es))
    where
      go : (b : Bool) → items (reported es) ≡ shown (items es) → items (cond b (more e (reported es)) (reported es)) ≡ cond b (one (item e) (shown (items es))) (shown (items es))
      go true h = joined e (reported es) ∙ ap (one (item e)) h
      go false h = h
