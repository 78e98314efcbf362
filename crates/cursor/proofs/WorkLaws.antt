-- A loop that keeps a running value, whatever it goes over and whatever it does: what comes of the things that are left is what comes of all.
use Prim.Native.Nat.{ℕ}
use mathlib.Core.Path.{◌≡◌, refl, sym, ◌∙◌}
use mathlib.Core.List.{List, [], ◌∷◌}
use mathlib.Core.Option.{Option, none, some}
use Rattle.rules.specs.Lists.{◌>>=◌}
use Rattle.rows.specs.Acts.{Held}
use Rattle.cursor.specs.Work.{RanOf, Ran}

-- `one` is what the first thing makes of a value, `all` what several make of it, and `all'` what the others make after the first; Ok and Ok' are what they ask
pub record Work {X A : Type 0} (one : X → A → A) (all all' : List X → A → A) (Ok Ok' : List X → A → Type 0) : Type 0 where
  pub none_left : (st : A) → all [] st ≡ st
  pub one_more : (x : X) (xs : List X) (st : A) → all (x ∷ xs) st ≡ all' xs (one x st)
  pub ok-more : (x : X) (xs : List X) (st : A) → Ok (x ∷ xs) st → Ok' xs (one x st)

-- the things o are left, and what comes of them is what is wanted
pub record Left {X A : Type 0} (wanted : A → ℕ → Type 0) (all : List X → A → A) (Ok : List X → A → Type 0) (o : Option (List X × ℕ)) (now : A) : Type 0 where
  pub ok : Held (λ y. Ok y.0 now) o
  pub is : (st : A) (next : ℕ) → Ran all o now st next → wanted st next

-- what holds of all that might be left
pub held_fact : {A Q : Type 0} (P : A → Type 0) (o : Option A) → Held P o → ((x : A) → P x → Q) → Q
held_fact P none h f = absurd h
held_fact P (some x) h f = f x h

pub held_as : {A : Type 0} (P Q : A → Type 0) (o : Option A) → Held P o → ((x : A) → P x → Q x) → Held Q o
held_as P Q none h f = h
held_as P Q (some x) h f = f x h

module _ {X A : Type 0} {all : List X → A → A} {Ok : List X → A → Type 0} where
  pub left-start : {o : Option (List X × ℕ)} {old : A} → Held (λ y. Ok y.0 old) o → Left (Ran all o old) all Ok o old
  left-start h = record { ok = h; is = λ st next r. r }

  module _ {wanted : A → ℕ → Type 0} {o : Option (List X × ℕ)} {now : A} (k : Left wanted all Ok o now) where
    pub left_there : Held (λ _. Unit {0}) o
    left_there = held_as (λ y. Ok y.0 now) (λ _. Unit {0}) o k.ok (λ _ _. tt)

    -- what is asked whatever is left
    pub left_fact : {Q : Type 0} → ((xs : List X) → Ok xs now → Q) → Q
    left_fact f = held_fact (λ y. Ok y.0 now) o k.ok (λ y h. f y.0 h)

    pub left-done : all [] now ≡ now → {p : ℕ} → o ≡ some ([], p) → wanted now p
    left-done z {p = p} e =
        let r : Held (RanOf all now now p) o = rw e (record { is = sym z; next-is = refl }) in
        k.is now p (record { held = r })

    -- x comes first, and then the rest
    module _ (x : X) (rest : Option (List X × ℕ)) (e : o ≡ (rest >>= λ y. some (x ∷ y.0, y.1))) where
      asks : (q : Option (List X × ℕ)) → Held {A = List X × ℕ} (λ y. Ok y.0 now) (q >>= λ y. some (x ∷ y.0, y.1)) → Held (λ y. Ok (x ∷ y.0) now) q
      asks none h = h
      asks (some y) h = h

      pub left_asks : Held (λ y. Ok (x ∷ y.0) now) rest
      left_asks = asks rest (rw e at k.ok)

      pub left_asks_fact : {Q : Type 0} → ((xs : List X) → Ok (x ∷ xs) now → Q) → Q
      left_asks_fact f = held_fact (λ y. Ok (x ∷ y.0) now) rest left_asks (λ y h. f y.0 h)

      module _ {one : X → A → A} {all' : List X → A → A} {Ok' : List X → A → Type 0} (W : Work one all all' Ok Ok') {next : A} (w : next ≡ one x now) where
        ran-more : (q : Option (List X × ℕ)) (st : A) (p : ℕ) → Ran all' q (one x now) st p → Ran all (q >>= λ y. some (x ∷ y.0, y.1)) now st p
        ran-more none st p r = record { held = r.held }
        ran-more (some y) st p r = record { held = record { is = r.held.is ∙ sym (W.one_more x y.0 now); next-is = r.held.next-is } }

        pub left-next : Left wanted all' Ok' rest next
        left-next = rw w (record {
          ok = held_as (λ y. Ok (x ∷ y.0) now) (λ y. Ok' y.0 (one x now)) rest left_asks (λ y h. W.ok-more x y.0 now h);
          is = λ st p r. k.is st p (rw e (ran-more rest st p r));
        })

-- what came of things, told otherwise
pub ran_as : {X A B : Type 0} {all : List X → A → A} {all' : List X → B → B} {o : Option (List X × ℕ)} {old now : A} {old' now' : B} {next : ℕ}
    → Ran all o old now next → ((xs : List X) → now ≡ all xs old → now' ≡ all' xs old') → Ran all' o old' now' next
ran_as {all = all} {all' = all'} {o = o} {old = old} {now = now} {old' = old'} {now' = now'} {next = next} r f =
    record { held = held_as (RanOf all old now next) (RanOf all' old' now' next) o r.held (λ x h. record { is = f x.0 h.is; next-is = h.next-is }) }

pub ran_some : {X A : Type 0} {all : List X → A → A} {o : Option (List X × ℕ)} {old now : A} {next : ℕ} {x : List X × ℕ} → o ≡ some x → Ran all o old now next → RanOf all old now next x
ran_some e r = rw e at r.held
