-- A run, a property at a time: its rows, and the name that it holds.
use Prim.Native.Nat.{ℕ, ◌+◌, ◌*◌, ◌≤◌, ◌<◌}
use native.Mathlib.Omega.{arith}
use mathlib.Core.Path.{◌≡◌, refl, sym, ap, ◌∙◌}
use mathlib.Core.Bool.{Bool, true, false, cond}
use mathlib.Core.Logic.{◌⊎◌, inl, inr}
use mathlib.Core.List.{List, [], ◌∷◌, map}
use mathlib.Core.Option.{none, some}
use mathlib.Core.Option as maybe
use lib.Dec.{leb, eqb}
use lib.ListN.{length}
use borrow.Author.Tests.{eq-eqb, ne_eqb, eqb-true, eqb-false}
use Rattle.std.proofs.Common.{Option, Some, None}
use Rattle.rules.specs.Lists.{◌>>=◌, find}
use Rattle.rules.specs.Bytes.{byte}
use Rattle.rules.specs.Rows.{property_width}
use Rattle.rules.specs.Access2000.{Prop, extent_at, property_at, goes_on_lem, run_at}
use Rattle.rules.specs.Reading.{property_row}
use Rattle.rules.specs.declared.Name.{Name}
use Rattle.rules.specs.declared.Property.{Property}
use Rattle.rules.specs.Told.{told_as}
use Rattle.rules.proofs.ToldLaws.{told_as_none}
use Rattle.rules.proofs.ListLaws.{Every, every_if, every_when}
use Rattle.rules.proofs.Access2000Laws.{after, run_step}
use Rattle.rows.specs.Put.{put}
use Rattle.rows.specs.Acts.{Held}
use Rattle.rows.proofs.PutLaws.{put-length}
use Rattle.rows.proofs.WritingLaws.{properties-none, properties-more}
use Rattle.walk2000.specs.Told as told
use Rattle.walk2000.specs.declared.Extent.{Extent}
use Rattle.coderows.specs.Look.{body_rows}
use Rattle.coderows.specs.declared.Body.{Body}
use Rattle.run2000.specs.declared.Naming.{Naming}
use Rattle.run2000.specs.declared.RunRows.{RunRows}
use Rattle.run2000.specs.Runs.{prop, shown_in, ran, run_act, RunFits, name_at, name_in_lem, next_name, run_rows, RunDone}

property-id : (s : List ℕ) (p : ℕ) → Every (λ q. q.id ≡ byte s p) (property_at s p)
unfolding property_at
property-id s p =
    every_when (λ q. q.id ≡ byte s p) (extent_at s (byte s p) (p + 1)) _ λ x _.
    every_if (λ q. q.id ≡ byte s p) (leb (x.0 + x.1) (length s)) _ _ (λ _. refl) λ _. tt

pub property-is : (s : List ℕ) (p : ℕ) (r : Option Extent) (v : Extent) → r ≡ told_as told.value (property_at s p) → r ≡ Some v → property_at s p ≡ some (prop (byte s p) v.start v.size)
property-is s p r v e k = go (property_at s p) (property-id s p) (sym e ∙ k)
  where
    go : (o : maybe.Option Prop) → Every (λ q. q.id ≡ byte s p) o → told_as told.value o ≡ Some v → o ≡ some (prop (byte s p) v.start v.size)
    go none h e = cc
    go (some q) h e =
        let e₀ : q.start ≡ v.start = cc in
        let e₁ : q.size ≡ v.size = cc in
        λ i. some (prop (h i) (e₀ i) (e₁ i))

-- ---- what is left of a run
abbrev pub Rest : Type 0
Rest = maybe.Option (List Prop × ℕ)

abbrev pub with_first : Prop → Rest → Rest
with_first q o = o >>= λ x. some (q ∷ x.0, x.1)

pub run_more : (s : List ℕ) (p : ℕ) (r : Option Extent) (v : Extent) → goes_on_lem s p ≡ true → r ≡ told_as told.value (property_at s p) → r ≡ Some v
    → run_at s p ≡ with_first (prop (byte s p) v.start v.size) (run_at s (v.start + v.size))
run_more s p r v t e k = (rw t at (run_step s p)) ∙ ap (λ o. o >>= after (run_at s)) (property-is s p r v e k)

pub run-stop : (s : List ℕ) (p : ℕ) → goes_on_lem s p ≡ false → run_at s p ≡ some ([], p)
run-stop s p t = rw t at (run_step s p)

pub run_bad : (s : List ℕ) (p : ℕ) (r : Option Extent) → goes_on_lem s p ≡ true → r ≡ told_as told.value (property_at s p) → r ≡ None → run_at s p ≡ none
run_bad s p r t e k = (rw t at (run_step s p)) ∙ ap (λ o. o >>= after (run_at s)) (told_as_none told.value (property_at s p) r e k)

-- ---- rows: what is left to write from here is what there was to write
pub record Left (f : Prop → Property) (s : List ℕ) (at : ℕ) (old : List ℕ) (first : ℕ) (new : List ℕ) (p n : ℕ) : Type 0 where
  pub fits : Held (RunFits new n) (run_at s p)
  pub is : run_act f (run_at s p) new n ≡ run_act f (run_at s at) old first
  pub same : length new ≡ length old

pub left-start : {f : Prop → Property} {s : List ℕ} {at : ℕ} {old : List ℕ} {first : ℕ} → Held (RunFits old first) (run_at s at) → Left f s at old first old at first
left-start h = record { fits = h; is = refl; same = refl }

one-room : (q : Prop) (new : List ℕ) (n : ℕ) (o : Rest) → Held (RunFits new n) (with_first q o) → n * property_width + property_width ≤ length new
one-room q new n none h = absurd h
one-room q new n (some x) h = omega (arith, h)

fits_more : (q : Prop) (new new' : List ℕ) (n : ℕ) (o : Rest) → length new' ≡ length new → Held (RunFits new n) (with_first q o) → Held (RunFits new' (n + 1)) o
fits_more q new new' n none l h = h
fits_more q new new' n (some x) l h = omega (arith, h, l)

act-more : (f : Prop → Property) (q : Prop) (new : List ℕ) (n : ℕ) (o : Rest) → run_act f o (put property_width new n (property_row (f q) ∷ [])) (n + 1) ≡ run_act f (with_first q o) new n
act-more f q new n none = refl
act-more f q new n (some x) =
    let a = properties-more (f q) (map f x.0) new n in
    let b : n + 1 + length x.0 ≡ n + length (q ∷ x.0) = omega arith in
    λ i. some (ran (sym a i) (b i) x.1)

module _ {f : Prop → Property} {s : List ℕ} {at : ℕ} {old : List ℕ} {first : ℕ} {new : List ℕ} {p n : ℕ} (known : Left f s at old first new p n) where
  pub left-stop : goes_on_lem s p ≡ false → some (ran new n p) ≡ run_act f (run_at s at) old first
  left-stop t =
      let a = properties-none new n in
      let b : n ≡ n + 0 = omega arith in
      let e : some (ran new n p) ≡ run_act f (some ([], p)) new n = λ i. some (ran (sym a i) (b i) p) in
      e ∙ ap (λ o. run_act f o new n) (sym (run-stop s p t)) ∙ known.is

  module _ {r : Option Extent} (goes : goes_on_lem s p ≡ true) (re : r ≡ told_as told.value (property_at s p)) where
    pub left_bad : r ≡ None → ⊥
    left_bad k = rw (run_bad s p r goes re k) at known.fits

    module _ {v : Extent} (k : r ≡ Some v) where
      pub left-room : n * property_width + property_width ≤ length new
      left-room = one-room (prop (byte s p) v.start v.size) new n (run_at s (v.start + v.size)) (rw (run_more s p r v goes re k) at known.fits)

      pub left-more : {q : Property} {new' : List ℕ} → q ≡ f (prop (byte s p) v.start v.size) → new' ≡ put property_width new n (property_row q ∷ []) → Left f s at old first new' (v.start + v.size) (n + 1)
      left-more {q = q} {new' = new'} qe ne =
          let m = run_more s p r v goes re k in
          let e : new' ≡ put property_width new n (property_row (f (prop (byte s p) v.start v.size)) ∷ []) = ne ∙ ap (λ x. put property_width new n (property_row x ∷ [])) qe in
          let l : length new' ≡ length new = ap length ne ∙ put-length property_width new n (property_row q ∷ []) in
          record {
            fits = fits_more (prop (byte s p) v.start v.size) new new' n (run_at s (v.start + v.size)) l (rw m at known.fits);
            is = rw e (act-more f (prop (byte s p) v.start v.size) new n (run_at s (v.start + v.size)) ∙ ap (λ o. run_act f o new n) (sym m) ∙ known.is);
            same = l ∙ known.same;
          }

-- ---- the name: the first with its id in what is left is the first there was
pub record Unnamed (s : List ℕ) (w at p : ℕ) : Type 0 where
  pub good : Held (λ _. Unit {0}) (run_at s p)
  pub is : name_in_lem s w (run_at s p) ≡ name_in_lem s w (run_at s at)

unnamed-start : (s : List ℕ) (w at : ℕ) → Held (λ _. Unit {0}) (run_at s at) → Unnamed s w at at
unnamed-start s w at h = record { good = h; is = refl }

first-is : (s : List ℕ) (w : ℕ) (q : Prop) (o : Rest) → q.id ≡ w → Held (λ _. Unit {0}) (with_first q o) → name_in_lem s w (with_first q o) ≡ name_at s q.start q.size
unfolding find
first-is s w q none e h = absurd h
first-is s w q (some x) e h = rw (eq-eqb q.id w e)

first_not : (s : List ℕ) (w : ℕ) (q : Prop) (o : Rest) → (q.id ≡ w → ⊥) → name_in_lem s w (with_first q o) ≡ name_in_lem s w o
unfolding find
first_not s w q none e = refl
first_not s w q (some x) e = rw (ne_eqb q.id w e)

good_more : (q : Prop) (o : Rest) → Held (λ _. Unit {0}) (with_first q o) → Held (λ _. Unit {0}) o
good_more q none h = h
good_more q (some x) h = tt

module _ (s : List ℕ) (w at p : ℕ) (known : Unnamed s w at p) where
  unnamed-stop : goes_on_lem s p ≡ false → Name.Numbered ≡ name_in_lem s w (run_at s at)
  unfolding find
  unnamed-stop t = ap (name_in_lem s w) (sym (run-stop s p t)) ∙ known.is

  module _ (r : Option Extent) (goes : goes_on_lem s p ≡ true) (re : r ≡ told_as told.value (property_at s p)) where
    module _ (v : Extent) (k : r ≡ Some v) where
      unnamed-found : (x : Name) → byte s p ≡ w → x ≡ name_at s v.start v.size → x ≡ name_in_lem s w (run_at s at)
      unnamed-found x e xe =
          let m = run_more s p r v goes re k in
          xe ∙ sym (first-is s w (prop (byte s p) v.start v.size) (run_at s (v.start + v.size)) e (rw m at known.good)) ∙ ap (name_in_lem s w) (sym m) ∙ known.is

      unnamed-more : (byte s p ≡ w → ⊥) → Unnamed s w at (v.start + v.size)
      unnamed-more e =
          let m = run_more s p r v goes re k in
          record {
            good = good_more (prop (byte s p) v.start v.size) (run_at s (v.start + v.size)) (rw m at known.good);
            is = sym (first_not s w (prop (byte s p) v.start v.size) (run_at s (v.start + v.size)) e) ∙ ap (name_in_lem s w) (sym m) ∙ known.is;
          }

-- nothing was found yet
record NotYet (s : List ℕ) (w at : ℕ) (x : Naming) (p : ℕ) : Type 0 where
  unnamed : Unnamed s w at p
  numbered : x.name ≡ Name.Numbered
  wanted_is : x.wanted ≡ w

-- what was found is the name
record Found (s : List ℕ) (w at : ℕ) (x : Naming) : Type 0 where
  name-is : x.name ≡ name_in_lem s w (run_at s at)
  done : x.wanted ≡ 0xFF

pub record Named (s : List ℕ) (w at : ℕ) (x : Naming) (p : ℕ) : Type 0 where
  known : NotYet s w at x p ⊎ Found s w at x

held_good : {A : Type 0} (P : A → Type 0) (o : maybe.Option A) → Held P o → Held (λ _. Unit {0}) o
held_good P none h = h
held_good P (some x) h = tt

pub named_start : {s : List ℕ} {w at : ℕ} (P : List Prop × ℕ → Type 0) → Held P (run_at s at) → Named s w at (record { name = Name.Numbered; wanted = w }) at
named_start {s = s} {w = w} {at = at} P h = record { known = inl (record { unnamed = unnamed-start s w at (held_good P (run_at s at) h); numbered = refl; wanted_is = refl }) }

pub named-stop : {s : List ℕ} {w at : ℕ} {x : Naming} {p : ℕ} → Named s w at x p → goes_on_lem s p ≡ false → x.name ≡ name_in_lem s w (run_at s at)
named-stop {s = s} {w = w} {at = at} {x = x} {p = p} h t = go h.known
  where
    go : NotYet s w at x p ⊎ Found s w at x → x.name ≡ name_in_lem s w (run_at s at)
    go (inl u) = u.numbered ∙ unnamed-stop s w at p u.unnamed t
    go (inr e) = e.name-is

module _ {s : List ℕ} {w at p : ℕ} {x : Naming} (h : Named s w at x p) {r : Option Extent} (goes : goes_on_lem s p ≡ true) (re : r ≡ told_as told.value (property_at s p)) {v : Extent} (k : r ≡ Some v) where
  same-named : (byte s p ≡ x.wanted → ⊥) → Named s w at x (v.start + v.size)
  same-named n = record { known = go h.known }
    where
      go : NotYet s w at x p ⊎ Found s w at x → NotYet s w at x (v.start + v.size) ⊎ Found s w at x
      go (inl u) = inl (record {
        unnamed = unnamed-more s w at p u.unnamed r goes re v k (λ e. n (e ∙ sym u.wanted_is));
        numbered = u.numbered;
        wanted_is = u.wanted_is;
      })
      go (inr e) = inr e

  now_named : byte s p < 0xFD → byte s p ≡ x.wanted → name_at s v.start v.size ≡ name_in_lem s w (run_at s at)
  now_named low e = go h.known
    where
      go : NotYet s w at x p ⊎ Found s w at x → name_at s v.start v.size ≡ name_in_lem s w (run_at s at)
      go (inl u) = unnamed-found s w at p u.unnamed r goes re v k (name_at s v.start v.size) (e ∙ u.wanted_is) refl
      go (inr f) = absurd (omega (arith, low, e, f.done))

  pub named_more : {x' : Naming} → byte s p < 0xFD → x' ≡ next_name s (byte s p) v.start v.size x → Named s w at x' (v.start + v.size)
  named_more low e = rw e (go (eqb (byte s p) x.wanted) refl)
    where
      go : (b : Bool) → eqb (byte s p) x.wanted ≡ b → Named s w at (cond b (record { name = name_at s v.start v.size; wanted = 0xFF }) x) (v.start + v.size)
      go true q = record { known = inr (record { name-is = now_named low (eqb-true _ _ q); done = refl }) }
      go false q = same-named (eqb-false _ _ q)

  -- no name has an id that tells its value's size
  not_wanted : 0xBC < w → byte s p ≤ 0xBC → byte s p ≡ x.wanted → ⊥
  not_wanted hw hb e = go h.known
    where
      go : NotYet s w at x p ⊎ Found s w at x → ⊥
      go (inl u) = omega (arith, u.wanted_is)
      go (inr f) = omega (arith, f.done)

  pub named_past : {x' : Naming} → 0xBC < w → byte s p ≤ 0xBC → x' ≡ x → Named s w at x' (v.start + v.size)
  named_past hw hb e = rw e (same-named (not_wanted hw hb))

-- ---- what the loop keeps
pub record Keeps (f : Prop → Property) (s : List ℕ) (at : ℕ) (old : List ℕ) (first wanted : ℕ) (new : List ℕ) (p n : ℕ) (x : Naming) : Type 0 where
  pub left : Left f s at old first new p n
  pub named : Named s wanted at x p

-- the run ends here
pub keeps_stop : {t : List ℕ} {body : Body} {s : List ℕ} {at : ℕ} {old : List ℕ} {first wanted : ℕ} {new : List ℕ} {p n : ℕ} {x : Naming} {r : RunRows}
    → Keeps (shown_in (body_rows t body) s) s at old first wanted new p n x → r ≡ run_rows p n x → goes_on_lem s p ≡ false → RunDone t body s at old first wanted new r
keeps_stop h e t = rw e (record { rows_are = left-stop h.left t; name-is = named-stop h.named t })
