-- Entries counted by a loop, whatever the layout: of the whole, so much is taken and so much is left.
use Prim.Native.Nat.{ℕ, ◌+◌, ◌-◌, ◌≤◌, ◌<◌}
use native.Mathlib.Omega.{arith}
use native.Mathlib.Nat.{sub-zero, zero-add, add-zero, add_assoc}
use mathlib.Core.Path.{◌≡◌, refl, sym, ap, ◌∙◌}
use mathlib.Core.Bool.{Bool, true, false}
use mathlib.Core.Option.{Option, none, some}
use Rattle.std.proofs.Common as code
use Rattle.rules.specs.Lists.{◌>>=◌}
use Rattle.rules.specs.Tree.{Entry, Entries, end, more, levels_at, is_reported, reported}
use Rattle.rules.proofs.ListLaws.{Every}
use Rattle.rows.specs.Counting.{size1, size, props1, props, tally_record, tally1, tally, tally_top, tally_kept}
use Rattle.rows.specs.declared.Tally.{Tally}
use Rattle.rows.proofs.LevelLaws.{after, levels-none, levels_deep, levels-next, EntryGrows, EntriesGrow, fewer}

-- ---- from what the code answers back to what was read
pub tally_of : {P : Type 0} (o : Option (Entries P × ℕ)) (r : code.Option Tally) (t : Tally) → r ≡ tally o → r ≡ code.Some t
    → (es : Entries P) × (size es ≡ t.controls) × (props es ≡ t.props) × (o ≡ some (es, t.next))
tally_of none r t p k = cc
tally_of (some x) r t p k =
    let e : tally_record (size x.0) (props x.0) x.1 ≡ t = cc in
    (x.0, ap (λ z. z.controls) e, ap (λ z. z.props) e, λ i. some (x.0, (e i).next))

pub top_of : {P : Type 0} (o : Option (Entries P × ℕ)) (r : code.Option Tally) (t : Tally) → r ≡ tally_top o → r ≡ code.Some t
    → (es : Entries P) × (size (reported es) ≡ t.controls) × (props (reported es) ≡ t.props) × (o ≡ some (es, t.next))
top_of none r t p k = cc
top_of (some x) r t p k =
    let e : tally_record (size (reported x.0)) (props (reported x.0)) x.1 ≡ t = cc in
    (x.0, ap (λ z. z.controls) e, ap (λ z. z.props) e, λ i. some (x.0, (e i).next))

-- ---- what is counted takes its bytes
abbrev pub TallyGrows : ℕ → code.Option Tally → Type 0
TallyGrows p code.None = Unit
TallyGrows p (code.Some t) = p + t.controls + t.props ≤ t.next

pub tally-room : (p : ℕ) (r : code.Option Tally) (t : Tally) → TallyGrows p r → r ≡ code.Some t → p + t.controls + t.props ≤ t.next
tally-room p r t g k = rw k at g

pub tally1_grows : {P : Type 0} (p : ℕ) (o : Option (Entry P × ℕ)) → Every (EntryGrows p) o → TallyGrows p (tally1 o)
tally1_grows p none g = tt
tally1_grows p (some x) g = g

pub tally_grows : {P : Type 0} (p : ℕ) (o : Option (Entries P × ℕ)) → Every (EntriesGrow p) o → TallyGrows p (tally o)
tally_grows p none g = tt
tally_grows p (some x) g = g

pub top_grows : {P : Type 0} (p : ℕ) (o : Option (Entries P × ℕ)) → Every (EntriesGrow p) o → TallyGrows p (tally_top o)
top_grows p none g = tt
top_grows p (some x) g = omega (arith, fewer x.0)

-- ---- one after the other
-- c entries and n properties more than the answer says
abbrev pub add_tally : ℕ → ℕ → code.Option Tally → code.Option Tally
add_tally c n code.None = code.None
add_tally c n (code.Some t) = code.Some (tally_record (c + t.controls) (n + t.props) t.next)

pub add_none : (r : code.Option Tally) → add_tally 0 0 r ≡ r
add_none code.None = refl
add_none (code.Some t) = simp zero-add

pub add_both : (c n c' n' : ℕ) (r : code.Option Tally) → add_tally c n (add_tally c' n' r) ≡ add_tally (c + c') (n + n') r
add_both c n c' n' code.None = refl
add_both c n c' n' (code.Some t) = simp add_assoc

-- this, and then what stands after it
abbrev pub join_tally : code.Option Tally → (ℕ → code.Option Tally) → code.Option Tally
join_tally code.None rest = code.None
join_tally (code.Some t) rest = add_tally t.controls t.props (rest t.next)

-- of `whole`, `all` entries and `theirs` properties are taken, and `left` is left
pub record Taken (whole : code.Option Tally) (all theirs : ℕ) (left : code.Option Tally) : Type 0 where
  pub is : whole ≡ add_tally all theirs left

taken_start : (r : code.Option Tally) → Taken r 0 0 r
taken_start r = record { is = sym (add_none r) }

module _ {whole left : code.Option Tally} {all theirs : ℕ} (known : Taken whole all theirs left) where
  taken-all : (p : ℕ) → left ≡ code.Some (tally_record 0 0 p) → code.Some (tally_record all theirs p) ≡ whole
  taken-all p e = sym (known.is ∙ ap (add_tally all theirs) e ∙ simp add-zero)

  taken_bad : left ≡ code.None → code.None ≡ whole
  taken_bad e = sym (known.is ∙ ap (add_tally all theirs) e)

  module _ (first : code.Option Tally) (rest : ℕ → code.Option Tally) (step : left ≡ join_tally first rest) where
    taken_more : (t : Tally) → first ≡ code.Some t → Taken whole (all + t.controls) (theirs + t.props) (rest t.next)
    taken_more t k = record { is = known.is ∙ ap (add_tally all theirs) (step ∙ ap (λ r. join_tally r rest) k) ∙ add_both all theirs t.controls t.props (rest t.next) }

    taken_none : (e : ℕ) → first ≡ code.Some (tally_record 0 0 e) → Taken whole all theirs (rest e)
    taken_none e k = record { is = known.is ∙ ap (add_tally all theirs) (step ∙ ap (λ r. join_tally r rest) k ∙ add_none (rest e)) }

-- ---- entries that may hold entries
module _ {P : Type 0} (one : (ℕ → ℕ → Option (Entries P × ℕ)) → ℕ → Option (Entry P × ℕ)) where
  tally-after : (o : Option (Entry P × ℕ)) (rest : ℕ → Option (Entries P × ℕ)) → tally (o >>= after rest) ≡ join_tally (tally1 o) (λ q. tally (rest q))
  tally-after none rest = refl
  tally-after (some x) rest = go (rest x.1)
    where
      go : (r : Option (Entries P × ℕ)) → tally (r >>= λ y. some (more x.0 y.0, y.1)) ≡ add_tally (size1 x.0) (props1 x.0) (tally r)
      go none = refl
      go (some y) = refl

  top-after : (o : Option (Entry P × ℕ)) (rest : ℕ → Option (Entries P × ℕ)) → tally_top (o >>= after rest) ≡ join_tally (tally_kept o) (λ q. tally_top (rest q))
  unfolding reported
  top-after none rest = refl
  top-after (some x) rest = go (is_reported x.0) refl (rest x.1) refl
    where
      go : (b : Bool) → is_reported x.0 ≡ b → (r : Option (Entries P × ℕ)) → rest x.1 ≡ r
          → tally_top (r >>= λ y. some (more x.0 y.0, y.1)) ≡ join_tally (tally_kept (some x)) (λ q. tally_top (rest q))
      go true t none e = rw (t, e)
      go true t (some y) e = rw (t, e)
      go false t none e = rw (t, e)
      go false t (some y) e = rw (t, e) (simp zero-add)

  -- of n entries at at, `done` are read: so many entries and properties are taken, and the others stand at p
  pub record Counting (d n at all theirs done p : ℕ) : Type 0 where
    pub is : Taken (tally (levels_at one d n at)) all theirs (tally (levels_at one d (n - done) p))

  -- the same of the top list, of which some entries are skipped
  pub record Choosing (d n at all theirs done p : ℕ) : Type 0 where
    pub is : Taken (tally_top (levels_at one d n at)) all theirs (tally_top (levels_at one d (n - done) p))

  levels_done : (d n done p : ℕ) → n ≤ done → levels_at one d (n - done) p ≡ some (end, p)
  levels_done d n done p h =
      let z : n - done ≡ 0 = omega arith in
      ap (λ k. levels_at one d k p) z ∙ levels-none one d p

  levels-one_more : (d n done p : ℕ) → (d ≡ 0 → ⊥) → done < n → levels_at one d (n - done) p ≡ (one (levels_at one (d - 1)) p >>= after (levels_at one d (n - (done + 1))))
  levels-one_more d n done p f h =
      let e : n - done - 1 ≡ n - (done + 1) = omega arith in
      levels-next one d (n - done) p f (omega arith) ∙ ap (λ k. one (levels_at one (d - 1)) p >>= after (levels_at one d k)) e

module _ {P : Type 0} {one : (ℕ → ℕ → Option (Entries P × ℕ)) → ℕ → Option (Entry P × ℕ)} {d n at : ℕ} where
  pub counting-start : Counting one d n at 0 0 0 at
  counting-start = record { is = simp sub-zero (taken_start (tally (levels_at one d n at))) }

  module _ {all theirs done p : ℕ} (known : Counting one d n at all theirs done p) where
    pub counting-all : n ≤ done → code.Some (tally_record all theirs p) ≡ tally (levels_at one d n at)
    counting-all h = taken-all known.is p (ap tally (levels_done one d n done p h))

    pub counting_deep : d ≡ 0 → done < n → code.None ≡ tally (levels_at one d n at)
    counting_deep z h = taken_bad known.is (ap (λ j. tally (levels_at one j (n - done) p)) z ∙ ap tally (levels_deep one (n - done) p (omega arith)))

    module _ (f : d ≡ 0 → ⊥) (h : done < n) (r : code.Option Tally) (re : r ≡ tally1 (one (levels_at one (d - 1)) p)) where
      next-list : tally (levels_at one d (n - done) p) ≡ join_tally r (λ q. tally (levels_at one d (n - (done + 1)) q))
      next-list =
          ap tally (levels-one_more one d n done p f h) ∙ tally-after one (one (levels_at one (d - 1)) p) (levels_at one d (n - (done + 1)))
          ∙ ap (λ r. join_tally r (λ q. tally (levels_at one d (n - (done + 1)) q))) (sym re)

      pub counting_bad : r ≡ code.None → code.None ≡ tally (levels_at one d n at)
      counting_bad k = taken_bad known.is (next-list ∙ ap (λ r. join_tally r (λ q. tally (levels_at one d (n - (done + 1)) q))) k)

      pub counting_more : (t : Tally) → r ≡ code.Some t → Counting one d n at (all + t.controls) (theirs + t.props) (done + 1) t.next
      counting_more t k = record { is = taken_more known.is r (λ q. tally (levels_at one d (n - (done + 1)) q)) next-list t k }

  pub choosing_start : Choosing one d n at 0 0 0 at
  choosing_start = record { is = simp sub-zero (taken_start (tally_top (levels_at one d n at))) }

  module _ {all theirs done p : ℕ} (known : Choosing one d n at all theirs done p) where
    pub choosing_all : n ≤ done → code.Some (tally_record all theirs p) ≡ tally_top (levels_at one d n at)
    unfolding reported
    choosing_all h = taken-all known.is p (ap tally_top (levels_done one d n done p h))

    module _ (f : d ≡ 0 → ⊥) (h : done < n) where
      next-top : tally_top (levels_at one d (n - done) p) ≡ join_tally (tally_kept (one (levels_at one (d - 1)) p)) (λ q. tally_top (levels_at one d (n - (done + 1)) q))
      next-top = ap tally_top (levels-one_more one d n done p f h) ∙ top-after one (one (levels_at one (d - 1)) p) (levels_at one d (n - (done + 1)))

      pub choosing_left : (e : ℕ) → tally_kept (one (levels_at one (d - 1)) p) ≡ code.Some (tally_record 0 0 e) → Choosing one d n at all theirs (done + 1) e
      choosing_left e t = record { is = taken_none known.is _ (λ q. tally_top (levels_at one d (n - (done + 1)) q)) next-top e t }

      module _ (r : code.Option Tally) (re : r ≡ tally_kept (one (levels_at one (d - 1)) p)) where
        pub choosing_bad : r ≡ code.None → code.None ≡ tally_top (levels_at one d n at)
        choosing_bad k = taken_bad known.is (next-top ∙ ap (λ r. join_tally r (λ q. tally_top (levels_at one d (n - (done + 1)) q))) (sym re ∙ k))

        pub choosing_more : (t : Tally) → r ≡ code.Some t → Choosing one d n at (all + t.controls) (theirs + t.props) (done + 1) t.next
        choosing_more t k = record { is = taken_more known.is _ (λ q. tally_top (levels_at one d (n - (done + 1)) q)) next-top t (sym re ∙ k) }
