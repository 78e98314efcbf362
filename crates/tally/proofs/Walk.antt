-- Properties and nodes counted one after the other, whatever the layout: what a walk needs to know of it.
use Prim.Native.Nat.{ℕ, ◌+◌, ◌≤◌}
use native.Mathlib.Omega.{arith}
use mathlib.Core.Path.{◌≡◌, ◌∙◌}
use mathlib.Core.Bool.{Bool}
use mathlib.Core.List.{List, map}
use lib.ListN.{length}
use Rattle.rules.specs.Answer.{longest}
use Rattle.rules.specs.Tree.{Node}
use Rattle.rules.specs.Reading.{Control}
use Rattle.rules.specs.declared.Property.{Property}
use Rattle.cursor.proofs.WorkLaws.{Work}
use Rattle.cursor.proofs.VisitLaws.{Visit}
use Rattle.tally.specs.Places.{bumps, property_places, control_places, properties_tally, controls_tally}
use Rattle.tally.proofs.BumpLaws.{bumps-length, properties-none, properties-more, controls-none, controls-more}

-- as many words as there were
abbrev pub Same : {X : Type 0} → List ℕ → List X → List ℕ → Type 0
Same old xs words = length words ≡ length old

pub properties_work : {X : Type 0} (in2000 : Bool) (f : X → Property) (old : List ℕ)
    → Work (λ (x : X) words. bumps words (property_places in2000 (f x))) (properties_tally in2000 f) (properties_tally in2000 f) (Same old) (Same old)
properties_work in2000 f old = record {
  none_left = λ words. properties-none in2000 words;
  one_more = λ x xs words. properties-more in2000 (f x) (map f xs) words;
  ok-more = λ x xs words e. bumps-length words (property_places in2000 (f x)) ∙ e;
}

-- n are counted, and with those that are left they are few
pub record FewLeft {P : Type 0} (old : List ℕ) (n : ℕ) (xs : List (Node P)) (words : List ℕ) : Type 0 where
  pub few : n + length xs ≤ longest
  pub same : length words ≡ length old

pub controls-counted : {P : Type 0} (in2000 : Bool) (f : Node P → Control) (old : List ℕ)
    → Work (λ (x : Node P) words. bumps words (control_places in2000 (f x))) (controls_tally in2000 f) (controls_tally in2000 f) (Same old) (Same old)
controls-counted in2000 f old = record {
  none_left = λ words. controls-none in2000 words;
  one_more = λ x xs words. controls-more in2000 (f x) (map f xs) words;
  ok-more = λ x xs words e. bumps-length words (control_places in2000 (f x)) ∙ e;
}

pub controls_work : {P : Type 0} (in2000 : Bool) (f : Node P → Control) (old : List ℕ) → Visit (λ _ x words. bumps words (control_places in2000 (f x))) (λ _. controls_tally in2000 f) (FewLeft old)
controls_work in2000 f old n =
    let W = controls-counted in2000 f old in
    record { none_left = W.none_left; one_more = W.one_more; ok-more = λ x xs words h. record { few = omega (arith, h.few); same = W.ok-more x xs words h.same } }
