-- A run, a property at a time, as the counting functions answer it.
use Prim.Native.Nat.{ℕ, ◌+◌, ◌≤◌, ◌<◌}
use native.Mathlib.Omega.{arith}
use native.Mathlib.Nat.{zero-add, add-zero, add_assoc}
use native.Mathlib.Numerals.{one-add}
use mathlib.Core.Path.{◌≡◌, refl, sym, ap, ◌∙◌}
use mathlib.Core.Bool.{true, false}
use mathlib.Core.List.{List, ◌∷◌}
use mathlib.Core.Option.{none, some}
use mathlib.Core.Option as maybe
use lib.ListN.{length}
use borrow.Author.Tests.{le-ltb, lt-ltb}
use Rattle.std.proofs.Common.{Option, Some, None}
use Rattle.rules.specs.Lists.{◌>>=◌}
use Rattle.rules.specs.Bytes.{byte}
use Rattle.rules.specs.Access2000.{Prop, goes_on_lem, property_at, run_at}
use Rattle.rules.specs.Told.{told_as}
use Rattle.rules.proofs.ListLaws.{Every}
use Rattle.rules.proofs.Access2000Laws.{Within, property-within, after, run_step}
use Rattle.walk2000.specs.Told as told
use Rattle.walk2000.specs.declared.Extent.{Extent}
use Rattle.walk2000.specs.declared.Run.{Run}

abbrev run : ℕ → ℕ → Run
run n p = record { count = n; next = p }

-- what is answered of the run at p
abbrev pub run_told : List ℕ → ℕ → Option Run
run_told s p = told_as told.run (run_at s p)

-- n properties more than the answer says
abbrev pub add_run : ℕ → Option Run → Option Run
add_run n None = None
add_run n (Some r) = Some (run (n + r.count) r.next)

add_none : (r : Option Run) → add_run 0 r ≡ r
add_none None = refl
add_none (Some r) = ap (λ m. Some (run m r.next)) (zero-add r.count)

add_one-more : (n : ℕ) (r : Option Run) → add_run n (add_run 1 r) ≡ add_run (n + 1) r
add_one-more n None = refl
add_one-more n (Some r) = ap (λ m. Some (run m r.next)) (sym (add_assoc n 1 r.count))

one-first : (q : Prop) (o : maybe.Option (List Prop × ℕ)) → told_as told.run (o >>= λ x. some (q ∷ x.0, x.1)) ≡ add_run 1 (told_as told.run o)
one-first q none = refl
one-first q (some x) = ap (λ m. Some (run m x.1)) (sym (one-add (length x.0)))

run-next : (s : List ℕ) (p : ℕ) (v : Extent) → goes_on_lem s p ≡ true → told_as told.value (property_at s p) ≡ Some v → run_told s p ≡ add_run 1 (run_told s (v.start + v.size))
run-next s p v t e = ap (told_as told.run) (rw t at (run_step s p)) ∙ go (property_at s p) e
  where
    go : (o : maybe.Option Prop) → told_as told.value o ≡ Some v → told_as told.run (o >>= after (run_at s)) ≡ add_run 1 (run_told s (v.start + v.size))
    go none e = cc
    go (some q) e =
        let e₀ : q.start ≡ v.start = cc in
        let e₁ : q.size ≡ v.size = cc in
        one-first q (run_at s (q.start + q.size)) ∙ rw (e₀, e₁)

run_bad : (s : List ℕ) (p : ℕ) → goes_on_lem s p ≡ true → told_as told.value (property_at s p) ≡ None → run_told s p ≡ None
run_bad s p t e = ap (told_as told.run) (rw t at (run_step s p)) ∙ go (property_at s p) e
  where
    go : (o : maybe.Option Prop) → told_as told.value o ≡ None → told_as told.run (o >>= after (run_at s)) ≡ None
    go none e = refl
    go (some q) e = cc

run-stop : (s : List ℕ) (p : ℕ) → goes_on_lem s p ≡ false → run_told s p ≡ Some (run 0 p)
run-stop s p t = ap (told_as told.run) (rw t at (run_step s p))

pub starts : (s : List ℕ) (p : ℕ) → p < length s → byte s p < 0xFD → goes_on_lem s p ≡ true
unfolding goes_on_lem
starts s p h k = rw (lt-ltb p (length s), lt-ltb (byte s p) 0xFD)

pub stops : (s : List ℕ) (p : ℕ) → p < length s → 0xFD ≤ byte s p → goes_on_lem s p ≡ false
unfolding goes_on_lem
stops s p h k = rw (lt-ltb p (length s), le-ltb (byte s p) 0xFD)

-- a property is further on, and inside
pub ends : (s : List ℕ) (p : ℕ) (r : Option Extent) (v : Extent) → r ≡ told_as told.value (property_at s p) → r ≡ Some v → (p < v.start + v.size) × (v.start + v.size ≤ length s)
ends s p r v e k = go (property_at s p) (property-within s p) (sym e ∙ k)
  where
    go : (o : maybe.Option Prop) → Every (Within s p) o → told_as told.value o ≡ Some v → (p < v.start + v.size) × (v.start + v.size ≤ length s)
    go none h e = cc
    go (some q) h e =
        let e₀ : q.start ≡ v.start = cc in
        let e₁ : q.size ≡ v.size = cc in
        omega arith

-- from at to p there are n properties, of a byte or more each
pub record Passed (s : List ℕ) (at n p : ℕ) : Type 0 where
  pub long : at + n ≤ p
  pub same : run_told s at ≡ add_run n (run_told s p)

pub passed_none : (s : List ℕ) (at : ℕ) → Passed s at 0 at
passed_none s at = record { long = omega arith; same = sym (add_none (run_told s at)) }

module _ {s : List ℕ} {at n p : ℕ} (known : Passed s at n p) where
  pub passed_stop : goes_on_lem s p ≡ false → Some (run n p) ≡ run_told s at
  passed_stop t = ap (λ m. Some (run m p)) (sym (add-zero n)) ∙ ap (add_run n) (sym (run-stop s p t)) ∙ sym known.same

  -- r is what is told of the property at p
  module _ {r : Option Extent} (t : goes_on_lem s p ≡ true) (e : r ≡ told_as told.value (property_at s p)) where
    pub passed_more : {v : Extent} → r ≡ Some v → Passed s at (n + 1) (v.start + v.size)
    passed_more {v} k =
        let further = ends s p r v e k in
        record { long = omega (arith, known.long, further); same = known.same ∙ ap (add_run n) (run-next s p v t (sym e ∙ k)) ∙ add_one-more n (run_told s (v.start + v.size)) }

    pub passed_bad : r ≡ None → None ≡ run_told s at
    passed_bad k = ap (add_run n) (sym (run_bad s p t (sym e ∙ k))) ∙ sym known.same
