-- Nodes written in several goes, whatever the layout.
use Prim.Native.Nat.{ℕ, ◌+◌}
use native.Mathlib.Omega.{arith}
use mathlib.Core.Path.{◌≡◌, refl, sym, ap, ◌∙◌}
use mathlib.Core.List.{List, [], ◌++◌, map}
use mathlib.Core.Option.{none, some}
use lib.ListN.{length, length-append}
use Rattle.rules.specs.Lists.{◌>>=◌}
use Rattle.rules.specs.Tree.{Node}
use Rattle.rules.specs.Reading.{Control}
use Rattle.rules.proofs.ListLaws.{map-append}
use Rattle.rows.specs.Writing.{State, theirs, write_controls}
use Rattle.rows.proofs.WritingLaws.{theirs-append, write-append, write_lengths, write-none}
use Rattle.rows.specs.Acts.{Nodes, ◌then◌, Held, Fit, Stood, act_by}

abbrev pub at_place : State → ℕ → Stood
at_place st e = record { state = st; next = e }

-- room for these controls and those is room for these, and then for those
pub fit_both : (a b : List Control) (st : State) → Fit (a ++ b) st → Fit a st × Fit b (write_controls a st)
unfolding write_controls
fit_both a b st h =
    let n = length-append a b in
    let m : length (theirs (a ++ b)) ≡ length (theirs a) + length (theirs b) = ap length (theirs-append a b) ∙ length-append (theirs a) (theirs b) in
    let l = write_lengths a st in (
      record {
        room = record { controls = omega (arith, h.room.controls, n); properties = omega (arith, h.room.properties, m) };
        few = omega (arith, h.few, n, m);
      },
      record {
        room = record { controls = omega (arith, h.room.controls, n, l.0); properties = omega (arith, h.room.properties, m, l.1) };
        few = omega (arith, h.few, n, m);
      },
    )

module _ {P : Type 0} (f : Node P → Control) where
  abbrev pub Fits : State → List (Node P) × ℕ → Type 0
  Fits st x = Fit (map f x.0) st

  after_first : (x : List (Node P) × ℕ) (o : Nodes P) (st : State)
      → act_by f (o >>= λ y. some (x.0 ++ y.0, y.1)) st ≡ act_by f o (write_controls (map f x.0) st)
  after_first x none st = refl
  after_first x (some y) st = ap (λ (w : State). some (at_place w y.1))
      (ap (λ cs. write_controls cs st) (map-append f x.0 y.0) ∙ write-append (map f x.0) (map f y.0) st)

  fit-first : (x : List (Node P) × ℕ) (o : Nodes P) (st : State)
      → Held (Fits st) (o >>= λ y. some (x.0 ++ y.0, y.1)) → Fits st x × Held (Fits (write_controls (map f x.0) st)) o
  fit-first x none st h = absurd h
  fit-first x (some y) st h = fit_both (map f x.0) (map f y.0) st (rw (map-append f x.0 y.0) at h)

  -- the first are written, and leave `now` and the place e: the others remain
  pub act-then : (o : Nodes P) (g : ℕ → Nodes P) (st now : State) (e : ℕ) → some (at_place now e) ≡ act_by f o st → act_by f (o then g) st ≡ act_by f (g e) now
  act-then none g st now e h = cc
  act-then (some x) g st now e h =
      let z : at_place now e ≡ at_place (write_controls (map f x.0) st) x.1 = cc in
      let a : now ≡ write_controls (map f x.0) st = ap (λ r. r.state) z in
      let b : e ≡ x.1 = ap (λ r. r.next) z in
      after_first x (g x.1) st ∙ rw (a, b)

  pub fit_then : (o : Nodes P) (g : ℕ → Nodes P) (st : State) → Held (Fits st) (o then g) → Held (Fits st) o
  fit_then none g st h = h
  fit_then (some x) g st h = (fit-first x (g x.1) st h).0

  pub fit-rest : (o : Nodes P) (g : ℕ → Nodes P) (st now : State) (e : ℕ) → some (at_place now e) ≡ act_by f o st → Held (Fits st) (o then g) → Held (Fits now) (g e)
  fit-rest none g st now e h k = absurd k
  fit-rest (some x) g st now e h k =
      let z : at_place now e ≡ at_place (write_controls (map f x.0) st) x.1 = cc in
      let a : now ≡ write_controls (map f x.0) st = ap (λ r. r.state) z in
      let b : e ≡ x.1 = ap (λ r. r.next) z in
      rw (a, b) (fit-first x (g x.1) st k).1

  pub act-none : (st : State) (e : ℕ) → some (at_place st e) ≡ act_by f (some ([], e)) st
  act-none st e = ap (λ (w : State). some (at_place w e)) (sym (write-none st))
