-- Places counted one after the other.
use Prim.Native.Nat.{ℕ, zero, suc, ◌+◌, min, ◌*◌, ◌/◌, ◌≤◌}
use native.Mathlib.Omega.{arith}
use mathlib.Core.Path.{◌≡◌, refl, sym, ap, ap₂, ◌∙◌}
use mathlib.Core.Bool.{Bool, true, false, cond, ◌&&◌}
use mathlib.Core.List.{List, [], ◌∷◌, ◌++◌, map}
use mathlib.Core.Option.{some}
use lib.Dec.{ltb, leb}
use lib.ListN.{length, get_or, set, length-set}
use borrow.Author.Tests.{ltb-true, ltb-false}
use Rattle.rules.specs.Lists.{concat}
use Rattle.rules.specs.Answer.{more_controls, more_properties, longest}
use Rattle.rules.specs.Rows.{control_width, property_width}
use Rattle.rules.specs.Reading.{Control, Reading, properties}
use Rattle.rules.specs.Blob.{refused, read, counted, fit, answer_of}
use Rattle.rules.specs.declared.Answer.{Answer}
use Rattle.rules.specs.Totals.{ceiling}
use Rattle.rules.specs.declared.Property.{Property}
use Rattle.tally.specs.Places.{bump, bumps, marks_at, property_places, properties_places, control_places, controls_places, reading_places, Tallied}

set_same : (words : List ℕ) (i : ℕ) → set words i (get_or words i 0) ≡ words
set_same [] i = refl
set_same (x ∷ xs) zero = refl
set_same (x ∷ xs) (suc i) = ap (λ (l : List ℕ). x ∷ l) (set_same xs i)

pub bump_up : (words : List ℕ) (i n : ℕ) → get_or words i 0 ≤ ceiling → n ≡ min (get_or words i 0 + 1) 4294967295 → set words i n ≡ bump words i
unfolding bump
bump_up words i n h e = go (ltb (get_or words i 0) ceiling) refl
  where
    go : (b : Bool) → ltb (get_or words i 0) ceiling ≡ b → set words i n ≡ set words i (cond b (get_or words i 0 + 1) (get_or words i 0))
    go true t = let l = ltb-true (get_or words i 0) ceiling t in ap (set words i) (omega (arith, l, e))
    go false t = let l = ltb-false (get_or words i 0) ceiling t in ap (set words i) (omega (arith, l, h, e))

set_past : (words : List ℕ) (i n : ℕ) → length words ≤ i → set words i n ≡ words
set_past [] i n h = refl
set_past (x ∷ xs) zero n h = absurd (omega arith)
set_past (x ∷ xs) (suc i) n h = ap (λ (l : List ℕ). x ∷ l) (set_past xs i n (omega arith))

pub bump_past : (words : List ℕ) (i : ℕ) → length words ≤ i → words ≡ bump words i
unfolding bump
bump_past words i h = sym (set_past words i _ h)

pub bump-length : (words : List ℕ) (i : ℕ) → length (bump words i) ≡ length words
unfolding bump
bump-length words i = length-set words i _

pub bumps-length : (words is : List ℕ) → length (bumps words is) ≡ length words
unfolding bumps
bumps-length words [] = refl
bumps-length words (i ∷ is) = bumps-length (bump words i) is ∙ bump-length words i

pub bumps-append : (words a b : List ℕ) → bumps words (a ++ b) ≡ bumps (bumps words a) b
unfolding bumps
bumps-append words [] b = refl
bumps-append words (i ∷ a) b = bumps-append (bump words i) a b

-- ---- a property
pub property-counted : (in2000 : Bool) (p : Property) (words : List ℕ) {now next : List ℕ} {place : ℕ} → place ≡ cond (in2000 && leb 0x8000 p.id) 37 38 → now ≡ bump words place
    → next ≡ bump now (marks_at + p.value.mark) → next ≡ bumps words (property_places in2000 p)
unfolding bumps
property-counted in2000 p words e f g = g ∙ ap (λ (w : List ℕ). bump w (marks_at + p.value.mark)) (f ∙ ap (bump words) e)

-- ---- of properties and controls
pub properties-none : (in2000 : Bool) (words : List ℕ) → bumps words (properties_places in2000 []) ≡ words
unfolding properties_places bumps concat
properties-none in2000 words = refl

pub properties-more : (in2000 : Bool) (p : Property) (ps : List Property) (words : List ℕ)
    → bumps words (properties_places in2000 (p ∷ ps)) ≡ bumps (bumps words (property_places in2000 p)) (properties_places in2000 ps)
unfolding properties_places concat
properties-more in2000 p ps words = bumps-append words (property_places in2000 p) (concat (map (property_places in2000) ps))

pub controls-none : (in2000 : Bool) (words : List ℕ) → bumps words (controls_places in2000 []) ≡ words
unfolding controls_places bumps concat
controls-none in2000 words = refl

pub controls-more : (in2000 : Bool) (c : Control) (cs : List Control) (words : List ℕ)
    → bumps words (controls_places in2000 (c ∷ cs)) ≡ bumps (bumps words (control_places in2000 c)) (controls_places in2000 cs)
unfolding controls_places concat
controls-more in2000 c cs words = bumps-append words (control_places in2000 c) (concat (map (control_places in2000) cs))

-- ---- a stream: what is answered, and what is counted
-- room for so many rows, by the words that they have
pub room-again : (cr pr : ℕ) (r : Reading) {a : Answer} → a ≡ answer_of (fit (cr * control_width / control_width) (pr * property_width / property_width) (some r)) → a ≡ answer_of (fit cr pr (some r))
room-again cr pr r e =
    let c : cr * control_width / control_width ≡ cr = omega arith in
    let p : pr * property_width / property_width ≡ pr = omega arith in
    e ∙ ap₂ (λ (m n : ℕ). answer_of (fit m n (some r))) c p

module _ (in2000 : Bool) (cr pr : ℕ) (r : Reading) (words : List ℕ) {a : Answer} (e : a ≡ answer_of (fit cr pr (some r))) where
  pub tallied_refused : (a.number ≡ 0 → ⊥) → Tallied in2000 (fit cr pr (some r)) words a words
  unfolding bumps
  tallied_refused h = go (ltb cr (length r.controls)) (ltb pr (length (properties r))) e
    where
      go : (b d : Bool) → a ≡ answer_of (cond b (refused (counted more_controls r)) (cond d (refused (counted more_properties r)) (read r)))
          → Tallied in2000 (cond b (refused (counted more_controls r)) (cond d (refused (counted more_properties r)) (read r))) words a words
      go true d e = record { answer-is = e; words_are = refl; few = tt }
      go false true e = record { answer-is = e; words_are = refl; few = tt }
      go false false e = absurd (h (ap (λ (x : Answer). x.number) e))

  pub tallied_read : a.number ≡ 0 → length r.controls + length (properties r) ≤ longest → {words' : List ℕ} → words' ≡ bumps words (reading_places in2000 r) → Tallied in2000 (fit cr pr (some r)) words a words'
  tallied_read z f {words' = words'} w = go (ltb cr (length r.controls)) (ltb pr (length (properties r))) e
    where
      go : (b d : Bool) → a ≡ answer_of (cond b (refused (counted more_controls r)) (cond d (refused (counted more_properties r)) (read r)))
          → Tallied in2000 (cond b (refused (counted more_controls r)) (cond d (refused (counted more_properties r)) (read r))) words a words'
      go true d e = absurd (omega (arith, z, ap (λ (x : Answer). x.number) e))
      go false true e = absurd (omega (arith, z, ap (λ (x : Answer). x.number) e))
      go false false e = record { answer-is = e; words_are = w; few = f }
