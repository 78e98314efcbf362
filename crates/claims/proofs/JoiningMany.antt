-- Wish 12 holds for any number of tables. Joining is commutative, associative and idempotent, so what comes out depends on which tables there are, and on nothing else.
use Prim.Native.Nat.{ℕ}
use native.Mathlib.Omega.{arith}
use mathlib.Core.Path.{◌≡◌, refl, sym, ap, subst, ◌∙◌}
use mathlib.Core.List.Memᴰ
use mathlib.Core.List.{List, [], ◌∷◌, ◌++◌, map, append-nil, append_assoc, Memᴰ, Permᴰ}
use mathlib.Core.Logic.{◌⊎◌, inl, inr, ◌↔◌}
use mathlib.Core.Option.{Option, none, some, some-injective}
use lib.ListN.{replicate, length-replicate}
use Rattle.rules.specs.Lists.{◌>>=◌}
use Rattle.rules.specs.CodeTable.{Tie, Holds}
use Rattle.rules.specs.Join.{join_exit, result}
use Rattle.rules.proofs.ListLaws.{none_some}
use Rattle.claims.specs.Demand3.{Successor}
use Rattle.claims.specs.Joining.{Table, Roomy, Together}
use Rattle.claims.specs.JoiningMany.{Plan, tables, outcome, Ready, Further, from_left, AllReady, FromAll, AnyOrder}
use Rattle.claims.proofs.Joining.{wish9, wish12}

-- ---- what may be missing, joined in a buffer
abbrev pub Bytes? : Type 0
Bytes? = Option (List ℕ)

abbrev pub both : List ℕ → Bytes? → Bytes? → Bytes?
both out x y = x >>= λ a. y >>= λ b. result (join_exit a b out)

-- what is there is well formed
abbrev Ok : Bytes? → Type 0
Ok x = (t : List ℕ) → x ≡ some t → Table t

there : (t : List ℕ) → Table t → Ok (some t)
there t T u e = subst Table (some-injective t u e) T

abbrev pub refused : List ℕ → Bytes?
refused a = none

pub missing : (o : Bytes?) → (o >>= refused) ≡ none
missing none = refl
missing (some a) = refl

-- what is joined is well formed
table_of : (a b out t : List ℕ) → Table a → Table b → result (join_exit a b out) ≡ some t → Table t
table_of a b out t A B e = let w = wish9.together a b out t A.bytes B.bytes e in record { bytes = w.bytes; formed = w.says.formed }

ok_both : (out : List ℕ) (x y : Bytes?) → Ok x → Ok y → Ok (both out x y)
ok_both out none y X Y t e = absurd (none_some e)
ok_both out (some a) none X Y t e = absurd (none_some e)
ok_both out (some a) (some b) X Y t e = table_of a b out t (X a refl) (Y b refl) e

ok : (p : Plan) → Ready p → Ok (outcome p)
unfolding outcome Ready
ok (Plan.table t) T = there t T
ok (Plan.join p q out) R = ok_both out (outcome p) (outcome q) (ok p R.0) (ok q R.1)

module _ (out : List ℕ) (room : Roomy out) where
  turned : (x y : Bytes?) → Ok x → Ok y → both out x y ≡ both out y x
  turned none none X Y = refl
  turned none (some b) X Y = refl
  turned (some a) none X Y = refl
  turned (some a) (some b) X Y = wish12.two_orders a b out out (X a refl) (Y b refl) room room

  grouped : (x y z : Bytes?) → Ok x → Ok y → Ok z → both out (both out x y) z ≡ both out x (both out y z)
  grouped none y z X Y Z = refl
  grouped (some a) none z X Y Z = refl
  grouped (some a) (some b) none X Y Z = missing (result (join_exit a b out))
  grouped (some a) (some b) (some c) X Y Z = wish12.two_groupings a b c out out (λ t. out) (λ t. out) (X a refl) (Y b refl) (Z c refl) room (λ t. room) room (λ t. room)

  -- another buffer gives the same
  other : (out' : List ℕ) → Roomy out' → (x y : Bytes?) → Ok x → Ok y → both out' x y ≡ both out x y
  other out' r none y X Y = refl
  other out' r (some a) none X Y = refl
  other out' r (some a) (some b) X Y = wish12.two_orders a b out' out (X a refl) (Y b refl) r room ∙ wish12.two_orders b a out out (Y b refl) (X a refl) room room

  joins : (p q : Plan) (o : List ℕ) → Ready (Plan.join p q o) → outcome (Plan.join p q o) ≡ both out (outcome p) (outcome q)
  unfolding outcome Ready
  joins p q o R = let r : Roomy o = let h = R.2 in omega arith in other o r (outcome p) (outcome q) (ok p R.0) (ok q R.1)

  -- what changes nothing joined to either of two changes nothing joined to both
  to-first : (x y z : Bytes?) → Ok x → Ok y → Ok z → both out x z ≡ x → both out (both out x y) z ≡ both out x y
  to-first x y z X Y Z e =
      grouped x y z X Y Z ∙ ap (both out x) (turned y z Y Z) ∙ sym (grouped x z y X Z Y) ∙ ap (λ (w : Bytes?). both out w y) e

  to-second : (x y z : Bytes?) → Ok x → Ok y → Ok z → both out y z ≡ y → both out (both out x y) z ≡ both out x y
  to-second x y z X Y Z e = grouped x y z X Y Z ∙ ap (both out x) e

  -- so does a table that is in a plan, joined to what comes of the plan
  absorbs : (p : Plan) → Ready p → (t : List ℕ) → Table t → Memᴰ t (tables p) → both out (outcome p) (some t) ≡ outcome p
  unfolding tables outcome Ready
  absorbs (Rattle.claims.specs.JoiningMany.table u) U t T (Memᴰ.tail x7) = elim x7 [ ]
  absorbs (Plan.table u) U t T (Memᴰ.head e) = ap (λ (v : List ℕ). both out (some u) (some v)) e ∙ wish12.with_itself u out U room
  absorbs (Plan.join p q o) R t T m =
      let same = joins p q o R in
      ap (λ (x : Bytes?). both out x (some t)) same
      ∙ go (absorbs p R.0 t T) (absorbs q R.1 t T) (Memᴰ.append_cases (tables p) m)
      ∙ sym same
    where
      go : (Memᴰ t (tables p) → both out (outcome p) (some t) ≡ outcome p) → (Memᴰ t (tables q) → both out (outcome q) (some t) ≡ outcome q)
          → Memᴰ t (tables p) ⊎ Memᴰ t (tables q) → both out (both out (outcome p) (outcome q)) (some t) ≡ both out (outcome p) (outcome q)
      go f g (inl h) = to-first (outcome p) (outcome q) (some t) (ok p R.0) (ok q R.1) (there t T) (f h)
      go f g (inr h) = to-second (outcome p) (outcome q) (some t) (ok p R.0) (ok q R.1) (there t T) (g h)

  -- and so does what comes of a plan whose tables are all in it
  within : (q : Plan) → Ready q → (p : Plan) → Ready p → ((t : List ℕ) → Memᴰ t (tables p) → Memᴰ t (tables q)) → both out (outcome q) (outcome p) ≡ outcome q
  unfolding tables outcome Ready
  within q Q (Plan.table t) T sub = absorbs q Q t T (sub t (Memᴰ.head refl))
  within q Q (Plan.join p p' o) R sub =
      ap (both out (outcome q)) (joins p p' o R)
      ∙ sym (grouped (outcome q) (outcome p) (outcome p') (ok q Q) (ok p R.0) (ok p' R.1))
      ∙ ap (λ (x : Bytes?). both out x (outcome p')) (within q Q p R.0 (λ t m. sub t (Memᴰ.append_left (tables p') m)))
      ∙ within q Q p' R.1 (λ t m. sub t (Memᴰ.append_right (tables p) m))

  by-tables : (p q : Plan) → Ready p → Ready q → ((t : List ℕ) → Memᴰ t (tables p) ↔ Memᴰ t (tables q)) → outcome p ≡ outcome q
  by-tables p q P Q h =
      sym (within p P q Q (λ t. (h t).1)) ∙ turned (outcome p) (outcome q) (ok p P) (ok q Q) ∙ within q Q p P (λ t. (h t).0)

-- a buffer to compare with
unfoldable spare : List ℕ
spare = replicate 65100 0

roomy : Roomy spare
unfolding spare
roomy = let e = length-replicate {A = ℕ} 65100 0 in omega arith

same_tables : (p q : Plan) → Ready p → Ready q → ((t : List ℕ) → Memᴰ t (tables p) ↔ Memᴰ t (tables q)) → outcome p ≡ outcome q
same_tables = by-tables spare roomy

-- ---- in another order
reordered : {t : List ℕ} {ts ts' : List (List ℕ)} → Permᴰ ts ts' → Memᴰ t ts → Memᴰ t ts'
reordered mathlib.Core.List.Permᴰ.nil m = m
reordered (mathlib.Core.List.Permᴰ.cons e d) (Memᴰ.head h) = Memᴰ.head (h ∙ e)
reordered (mathlib.Core.List.Permᴰ.cons e d) (Memᴰ.tail m) = Memᴰ.tail (reordered d m)
reordered (mathlib.Core.List.Permᴰ.swap e e') (Memᴰ.head h) = Memᴰ.tail (Memᴰ.head (h ∙ e))
reordered (mathlib.Core.List.Permᴰ.swap e e') (Memᴰ.tail (Memᴰ.head h)) = Memᴰ.head (h ∙ e')
reordered (mathlib.Core.List.Permᴰ.swap e e') (Memᴰ.tail (Memᴰ.tail m)) = Memᴰ.tail (Memᴰ.tail m)
reordered (mathlib.Core.List.Permᴰ.trans d d') m = reordered d' (reordered d m)

any_plan : (p q : Plan) → Ready p → Ready q → Permᴰ (tables p) (tables q) → outcome p ≡ outcome q
any_plan p q P Q d = same_tables p q P Q (λ t. (reordered d, reordered (mathlib.Core.List.Permᴰ.symm d)))

-- ---- from the left
abbrev its : Further → List ℕ
its f = f.table

unfoldable plan_from : Plan → List Further → Plan
plan_from p [] = p
plan_from p (f ∷ fs) = plan_from (Plan.join p (Plan.table f.table) f.out) fs

plan_tables : (p : Plan) (fs : List Further) → tables (plan_from p fs) ≡ tables p ++ map its fs
unfolding plan_from tables
plan_tables p [] = sym (append-nil (tables p))
plan_tables p (f ∷ fs) = plan_tables (Plan.join p (Plan.table f.table) f.out) fs ∙ append_assoc (tables p) (f.table ∷ []) (map its fs)

plan_outcome : (p : Plan) (fs : List Further) → outcome (plan_from p fs) ≡ (outcome p >>= λ t. from_left t fs)
unfolding plan_from outcome from_left
plan_outcome p [] = go (outcome p)
  where
    go : (x : Bytes?) → x ≡ (x >>= λ t. some t)
    go none = refl
    go (some t) = refl
plan_outcome p (f ∷ fs) = plan_outcome (Plan.join p (Plan.table f.table) f.out) fs ∙ go (outcome p)
  where
    go : (x : Bytes?) → (both f.out x (some f.table) >>= λ u. from_left u fs) ≡ (x >>= λ t. result (join_exit t f.table f.out) >>= λ u. from_left u fs)
    go none = refl
    go (some t) = refl

plan_ready : (p : Plan) → Ready p → (fs : List Further) → AllReady fs → Ready (plan_from p fs)
unfolding plan_from Ready
plan_ready p P [] F = P
plan_ready p P (f ∷ fs) F =
    let h = F f (Memᴰ.head refl) in
    plan_ready (Plan.join p (Plan.table f.table) f.out) (P, h.0, h.1) fs (λ g m. F g (Memᴰ.tail m))

from-left : (t t' : List ℕ) (fs fs' : List Further) → Table t → Table t' → AllReady fs → AllReady fs' → Permᴰ (t ∷ map its fs) (t' ∷ map its fs') → from_left t fs ≡ from_left t' fs'
unfolding tables outcome Ready
from-left t t' fs fs' T T' F F' d =
    let e = plan_tables (Plan.table t) fs in
    let e' = plan_tables (Plan.table t') fs' in
    let d' : Permᴰ (tables (plan_from (Plan.table t) fs)) (tables (plan_from (Plan.table t') fs')) = rw (e, e') d in
    sym (plan_outcome (Plan.table t) fs)
    ∙ any_plan (plan_from (Plan.table t) fs) (plan_from (Plan.table t') fs') (plan_ready (Plan.table t) T fs F) (plan_ready (Plan.table t') T' fs' F') d'
    ∙ plan_outcome (Plan.table t') fs'

-- ---- what all of them have
itself_after : (t : List ℕ) → Table t → Successor t t
itself_after t T = record { older-formed = T.formed; newer-formed = T.formed; one-layout = refl; same-header = refl; holds_every_row = λ kind code r h. h }

after-after : (a b c : List ℕ) → Successor a b → Successor b c → Successor a c
after-after a b c f g = record {
  older-formed = f.older-formed;
  newer-formed = g.newer-formed;
  one-layout = f.one-layout ∙ g.one-layout;
  same-header = f.same-header ∙ g.same-header;
  holds_every_row = λ kind code r h. g.holds_every_row kind code r (f.holds_every_row kind code r h);
}

both_some : (out : List ℕ) (x y : Bytes?) (t : List ℕ) → both out x y ≡ some t → (a : List ℕ) × (b : List ℕ) × (x ≡ some a) × (y ≡ some b) × (result (join_exit a b out) ≡ some t)
both_some out none y t e = absurd (none_some e)
both_some out (some a) none t e = absurd (none_some e)
both_some out (some a) (some b) t e = (a, b, refl, refl, e)

abbrev Rows : List (List ℕ) → ℕ → ℕ → Tie → Type 0
Rows ts kind code r = (u : List ℕ) × Memᴰ u ts × Holds u kind code r

one-alone : (u : List ℕ) → Table u → FromAll (Plan.table u) u
unfolding tables
one-alone u U = record {
  is-table = U;
  row = λ kind code r. (λ h. (u, Memᴰ.head refl, h), λ h. subst (λ (v : List ℕ). Holds v kind code r) (Memᴰ.eq_of_singleton h.1) h.2);
  after-each = λ v m. subst (λ (w : List ℕ). Successor w u) (sym (Memᴰ.eq_of_singleton m)) (itself_after u U);
}

module _ (p q : Plan) (out t a b : List ℕ) (A : FromAll p a) (B : FromAll q b) (e : result (join_exit a b out) ≡ some t) where
  two : Together a b t
  two = wish9.together a b out t A.is-table.bytes B.is-table.bytes e

  of_either : (kind code : ℕ) (r : Tie) → Holds a kind code r ⊎ Holds b kind code r → Rows (tables p ++ tables q) kind code r
  of_either kind code r (inl h) = let o = (A.row kind code r).0 h in (o.0, Memᴰ.append_left (tables q) o.1, o.2)
  of_either kind code r (inr h) = let o = (B.row kind code r).0 h in (o.0, Memᴰ.append_right (tables p) o.1, o.2)

  in_either : (kind code : ℕ) (r : Tie) (u : List ℕ) → Holds u kind code r → Memᴰ u (tables p) ⊎ Memᴰ u (tables q) → Holds a kind code r ⊎ Holds b kind code r
  in_either kind code r u h (inl m) = inl ((A.row kind code r).1 (u, m, h))
  in_either kind code r u h (inr m) = inr ((B.row kind code r).1 (u, m, h))

  after-either : (u : List ℕ) → Memᴰ u (tables p) ⊎ Memᴰ u (tables q) → Successor u t
  after-either u (inl m) = after-after u a t (A.after-each u m) two.after_a
  after-either u (inr m) = after-after u b t (B.after-each u m) two.after_b

  two-plans : FromAll (Plan.join p q out) t
  unfolding tables
  two-plans = record {
    is-table = record { bytes = two.bytes; formed = two.says.formed };
    row = λ kind code r. (
      λ h. of_either kind code r ((two.row kind code r).0 h),
      λ h. (two.row kind code r).1 (in_either kind code r h.0 h.2 (Memᴰ.append_cases (tables p) h.1)),
    );
    after-each = λ u m. after-either u (Memᴰ.append_cases (tables p) m);
  }

from_all : (p : Plan) (t : List ℕ) → Ready p → outcome p ≡ some t → FromAll p t
unfolding outcome Ready
from_all (Plan.table u) t U e = subst (FromAll (Plan.table u)) (some-injective u t e) (one-alone u U)
from_all (Plan.join p q out) t R e =
    let s = both_some out (outcome p) (outcome q) t e in
    two-plans p q out t s.0 s.1 (from_all p s.0 R.0 s.2) (from_all q s.1 R.1 s.3) s.4

pub any_order : AnyOrder
any_order = record { any_plan = any_plan; from-left = from-left; same_tables = same_tables; from_all = from_all }
