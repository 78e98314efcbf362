-- What is answered, and what the rows are at exit: the refusals in their order, then the list.
use Prim.Native.Nat.{ℕ, ◌/◌, ◌≤◌, ◌<◌}
use native.Mathlib.Omega.{arith}
use mathlib.Core.Path.{◌≡◌, refl, sym, ap, ◌∙◌}
use mathlib.Core.Bool.{Bool, true, false, cond, true≢false}
use mathlib.Core.List.{List, []}
use mathlib.Core.Option.{Option, none, some}
use lib.Dec.{ltb, eqb}
use lib.ListN.{length}
use borrow.Author.Tests.{lt-ltb, le-ltb}
use Rattle.rules.specs.Lists.{concat, all}
use Rattle.rules.specs.Answer.{answer, refusal, longest}
use Rattle.rules.specs.CodeTable.{scopes, well_formed_lem}
use Rattle.rules.specs.Join.{same_head_lem}
use Rattle.rules.specs.Tree.{Entries}
use Rattle.rules.specs.Access2000.{Prop, stream_of}
use Rattle.rules.specs.Reading.{Reading, properties}
use Rattle.rules.specs.Rows.{control_width, property_width, difference_width, room, written}
use Rattle.rules.specs.Blob.{Exit, Outcome, is2000, read_by, reading_of, counted, fit, answer_of, outcome, exit}
use Rattle.rules.specs.Differences.{has_scope, succeeds, sites, differences_from, difference_rows, differences_answer, differences_exit}
use Rattle.rules.specs.declared.Answer.{Answer}
use Rattle.rules.proofs.ListLaws.{and_r, none_some}
use Rattle.differlaws.proofs.DifferencesLaws.{has-extends}
use Rattle.rows.specs.Acts.{Held}
use Rattle.blob.specs.Exit as blob
use Rattle.differ2000.specs.Listing.{StreamReady, StreamDone}
use Rattle.differ2000.proofs.Whole.{whole-list}
use Rattle.differences.specs.Exit.{exited, fit_exit, Fits}

-- ---- what a reading without room tells
module _ (older s controls props : List ℕ) (short : length s ≤ longest) (w : well_formed_lem older ≡ true) {a : Answer} {cs ps : List ℕ}
    (e : blob.exited a cs ps ≡ exit older s controls props) where
  seen-is : a ≡ answer_of (fit (room control_width controls) (room property_width props) (reading_of older s))
  unfolding exit outcome
  seen-is = rw (le-ltb longest (length s) short, w) at (ap (λ (x : Exit). x.answer) e)

  -- the reading, and how many properties it has
  pub record Seen : Type 0 where
    pub reading : Reading
    pub reads : reading_of older s ≡ some reading
    pub many : a.second ≡ length (properties reading)

  pub seen_some : (a.number ≡ 4 → ⊥) → Seen
  seen_some h = go (reading_of older s) refl seen-is
    where
      same : (r : Reading) (b c : Bool) → (answer_of (cond b (Outcome.refused (counted 6 r)) (cond c (Outcome.refused (counted 7 r)) (Outcome.read r)))).second ≡ length (properties r)
      same r true c = refl
      same r false true = refl
      same r false false = refl

      go : (o : Option Reading) → reading_of older s ≡ o → a ≡ answer_of (fit (room control_width controls) (room property_width props) o) → Seen
      go none k q = absurd (h (ap (λ (x : Answer). x.number) q))
      go (some r) k q = record {
        reading = r;
        reads = k;
        many = ap (λ (x : Answer). x.second) q ∙ same r (ltb (room control_width controls) (length r.controls)) (ltb (room property_width props) (length (properties r)));
      }

  pub seen_none : a.number ≡ 4 → reading_of older s ≡ none
  seen_none h = go (reading_of older s) refl seen-is
    where
      other : (r : Reading) (b c : Bool) → (answer_of (cond b (Outcome.refused (counted 6 r)) (cond c (Outcome.refused (counted 7 r)) (Outcome.read r)))).number ≡ 4 → ⊥
      other r true c q = let z : ◌≡◌ {A = ℕ} 6 4 = q in omega arith
      other r false true q = let z : ◌≡◌ {A = ℕ} 7 4 = q in omega arith
      other r false false q = let z : ◌≡◌ {A = ℕ} 0 4 = q in omega arith

      go : (o : Option Reading) → reading_of older s ≡ o → a ≡ answer_of (fit (room control_width controls) (room property_width props) o) → reading_of older s ≡ none
      go none k q = k
      go (some r) k q =
          absurd (other r (ltb (room control_width controls) (length r.controls)) (ltb (room property_width props) (length (properties r))) (sym (ap (λ (x : Answer). x.number) q) ∙ h))

-- ---- the list
abbrev those : List ℕ → List ℕ → List ℕ → List (List ℕ)
those older newer s = differences_from older newer s 0 (sites s)

module _ {older newer s : List ℕ} (h : StreamReady older newer s) {nowhere left : List ℕ} {n : ℕ} (d : StreamDone older newer s nowhere left n) (rows : List ℕ) (m : ℕ) {a : Answer} where
  pub list_over : length rows / 10 < n → a ≡ answer 6 n m 0 → Fits older newer s rows m a rows
  list_over l e =
      let k : n ≡ length (those older newer s) = (whole-list h d).many in
      rw (lt-ltb (length rows / 10) (length (those older newer s)) (omega (arith, l, k))) (ap (λ (x : Answer). exited x rows) (e ∙ ap (λ (i : ℕ). answer 6 i m 0) k))

  pub list-fits : n ≤ length rows / 10 → a ≡ answer 0 n m 0 → {rows' : List ℕ} {n' : ℕ} → StreamDone older newer s rows rows' n' → Fits older newer s rows m a rows'
  list-fits l e {rows' = rows'} d' =
      let k : n ≡ length (those older newer s) = (whole-list h d).many in
      let f : rows' ≡ written (those older newer s) rows = (whole-list h d').all_fit (omega (arith, l, k)) in
      let q : a ≡ answer 0 (length (those older newer s)) m 0 = e ∙ ap (λ (i : ℕ). answer 0 i m 0) k in
      rw (le-ltb (length rows / 10) (length (those older newer s)) (omega (arith, l, k))) (λ j. exited (q j) (f j))

-- ---- the refusals
module _ (older newer s rows : List ℕ) where
  abbrev Done : Answer → List ℕ → Type 0
  Done a rows' = exited a rows' ≡ differences_exit older newer s rows

  pub five : {a : Answer} → longest < length s → a ≡ refusal 5 → Done a rows
  unfolding differences_exit differences_answer
  five l e = rw (e, lt-ltb longest (length s) l)

  module _ (short : length s ≤ longest) where
    pub eight-older : {a : Answer} → well_formed_lem older ≡ false → a ≡ refusal 8 → Done a rows
    unfolding differences_exit differences_answer
    eight-older w e = rw (e, le-ltb longest (length s) short, w)

    module _ (w : well_formed_lem older ≡ true) where
      pub eight-newer : {a : Answer} → well_formed_lem newer ≡ false → a ≡ refusal 8 → Done a rows
      unfolding differences_exit differences_answer
      eight-newer v e = rw (e, le-ltb longest (length s) short, w, v)

      module _ (v : well_formed_lem newer ≡ true) where
        pub nineteen : {a : Answer} → succeeds older newer ≡ false → a ≡ refusal 19 → Done a rows
        unfolding differences_exit differences_answer
        nineteen u e = rw (e, le-ltb longest (length s) short, w, v, u)

        module _ (u : succeeds older newer ≡ true) where
          pub four : {a : Answer} → reading_of older s ≡ none → a ≡ refusal 4 → Done a rows
          unfolding differences_exit differences_answer
          four n e = rw (e, le-ltb longest (length s) short, w, v, u, n)

          final : (x : List (List ℕ)) (m : ℕ) (b : Bool)
              → cond b (exited (answer 6 (length x) m 0) rows) (exited (answer 0 (length x) m 0) (written x rows))
              ≡ exited (cond b (answer 6 (length x) m 0) (answer 0 (length x) m 0)) (cond (eqb (cond b (answer 6 (length x) m 0) (answer 0 (length x) m 0)).number 0) (written x rows) rows)
          final x m true = refl
          final x m false = refl

          module _ {m : ℕ} {r : Reading} (reads : reading_of older s ≡ some r) (many : m ≡ length (properties r)) where
            pub stream-ready : is2000 older s ≡ true → StreamReady older newer s
            unfolding succeeds reading_of
            stream-ready o = record {
              tables = record { older-formed = w; newer-formed = v; extends = has-extends older newer (and_r (same_head_lem older newer) (all (has_scope newer) (scopes older)) u) };
              small = short;
              there = go (stream_of s) (rw o at reads);
            }
              where
                go : (x : Option (List Prop × Entries Prop)) → read_by older s x ≡ some r → Held {A = List Prop × Entries Prop} (λ _. Unit {0}) x
                go none e = absurd (none_some e)
                go (some x) e = tt

            by_rows : (x : List (List ℕ)) → difference_rows older newer s ≡ x → fit_exit x (length (properties r)) rows ≡ differences_exit older newer s rows
            unfolding differences_exit differences_answer
            by_rows x e = rw (le-ltb longest (length s) short, w, v, u, reads, e) (final x (length (properties r)) (ltb (room difference_width rows) (length x)))

            pub by_2000 : {a : Answer} {rows' : List ℕ} → is2000 older s ≡ true → Fits older newer s rows m a rows' → Done a rows'
            unfolding difference_rows
            by_2000 o f = f ∙ ap (λ (k : ℕ). fit_exit (those older newer s) k rows) many ∙ by_rows (those older newer s) (rw o refl)

            pub by-later : {a : Answer} → is2000 older s ≡ false → a ≡ answer 0 0 m 0 → Done a rows
            unfolding difference_rows concat
            by-later o e =
                ap (λ (x : Answer). exited x rows) (e ∙ ap (λ (k : ℕ). answer 0 0 k 0) many)
                ∙ zero (ltb (room difference_width rows) 0) (le-ltb (room difference_width rows) 0 (omega arith)) ∙ by_rows [] (rw o refl)
              where
                zero : (b : Bool) → b ≡ false
                    → exited (answer 0 0 (length (properties r)) 0) rows ≡ cond b (exited (answer 6 0 (length (properties r)) 0) rows) (exited (answer 0 0 (length (properties r)) 0) (written [] rows))
                zero true q = absurd (true≢false q)
                zero false q = refl
