-- What the loops keep that walk two scopes or two tables at once and write what they have together.
use Prim.Native.Nat.{ℕ}
use mathlib.Core.Path.{◌≡◌, ap}
use mathlib.Core.Bool.{Bool}
use mathlib.Core.List.{List, [], map}
use Rattle.rules.specs.Lists.{concat, merge}
use Rattle.joinlaws.proofs.JoinTurns.{Turn}
use Rattle.text.specs.Writer.{Wrote}
use Rattle.text.proofs.Remains.{Remains, all_remains, remains_as, on, done}
use Rattle.join.specs.Walk.{Walks}

-- both walks can go on, and what they have left, `left`, is still to be written; each of it has its bytes
pub record Writing {A C : Type 0} (Walk : List ℕ → C → Type 0) (bytes : A → List ℕ) (one : List ℕ) (a : C) (other : List ℕ) (b : C) (old : List ℕ) (at : ℕ) (whole new : List ℕ) (next : ℕ) (left : List A) : Type 0 where
  pub walks : Walks Walk one a other b
  pub rest : Remains old at whole new next (concat (map bytes left))

module _ {A C : Type 0} {Walk : List ℕ → C → Type 0} {bytes : A → List ℕ} {one : List ℕ} {a : C} {other : List ℕ} {b : C} where
  pub all_left : {old : List ℕ} {at : ℕ} {xs ys : List A} → Walks Walk one a other b → xs ≡ ys
      → Writing Walk bytes one a other b old at (concat (map bytes xs)) old at ys
  all_left w e = record { walks = w; rest = remains_as all_remains (ap (λ (l : List A). concat (map bytes l)) e) }

  -- a turn's own bytes were written
  pub turn-written : {a' b' : C} {f : A → ℕ} {c : A → A → A} {p : A → A → Bool} {xs ys xs' ys' : List A} {z : A} {t : Bool} {old whole new later : List ℕ} {at next then : ℕ}
      → Writing Walk bytes one a other b old at whole new next (merge f c xs ys) → Turn f c p xs ys z t xs' ys' → Walks Walk one a' other b'
      → Wrote new next (bytes z) later then → Writing Walk bytes one a' other b' old at whole later then (merge f c xs' ys')
  unfolding concat
  turn-written k T w h = record { walks = w; rest = on k.rest (ap (λ (l : List A). concat (map bytes l)) T.merged) h }

  pub none_left : {old whole new : List ℕ} {at next : ℕ} {left : List A} → Writing Walk bytes one a other b old at whole new next left → left ≡ [] → Wrote old at whole new next
  unfolding concat
  none_left k e = done k.rest (ap (λ (l : List A). concat (map bytes l)) e)
