-- What is printed, by what was made.
use Prim.Native.Nat.{ℕ, ◌+◌, ◌≤◌, ◌<◌}
use native.Mathlib.Omega.{arith}
use mathlib.Core.Path.{◌≡◌, refl, sym, ap, ◌∙◌}
use mathlib.Core.Bool.{Bool, true, false}
use mathlib.Core.List.{List, ◌++◌}
use borrow.Author.Tests.{lt-ltb, le-ltb, eq-eqb, ne_eqb, ltb-true, ltb-false, eqb-true, eqb-false}
use lib.Dec.{ltb, eqb}
use lib.ListN.{length, take, drop, length-append}
use lib.Seq.{take_at}
use Rattle.std.specs.Prelude.{Result, Ok, Err}
use Rattle.tabletext.specs.Input.{Began}
use Rattle.tabletext.proofs.Told.{told}
use Rattle.tablemaking.specs.Judged.{judged}
use Rattle.tablelines.specs.Faults.{long_text, number_lem}
use Rattle.tablemaking.specs.declared.Refusal.{Refusal}
use Rattle.tablemaking.specs.Made.{Made, table_said, longest_text, MadeExit, MadeAs, make_exit, made_lem, refused_with}
use Rattle.tablemaking.proofs.Judging.{numbered}
use Rattle.tablemaking.proofs.Formed.{said-short}
use Rattle.tablemaking.proofs.Making.{too_long, bad_line, with-room}
use Rattle.tablewhy.specs.Why.{size_text, why_text}
use Rattle.tablemake.specs.Printed.{printed}
use Rattle.tablemake.specs.Making.{TextRefused, Makes}

pub long-printed : (s : List ℕ) → longest_text < length s → printed s ≡ why_text long_text 0
unfolding printed
long-printed s h = rw (lt-ltb longest_text (length s) h)

-- all of the input says what was read of it
pub all-printed : {room : ℕ} {read all : List ℕ} → longest_text < room → Began room read all → printed read ≡ printed all
all-printed = told longest_text (λ s t g k. long-printed s g ∙ sym (long-printed t k))

module _ (s : List ℕ) (h : length s ≤ longest_text) where
  table-printed : (judged s).error ≡ 0 → printed s ≡ size_text (length (table_said s)) ++ table_said s
  unfolding printed
  table-printed e = rw (le-ltb longest_text (length s) h, eq-eqb (judged s).error 0 e)

  line-printed : ((judged s).error ≡ 0 → ⊥) → printed s ≡ why_text (judged s).error (judged s).line
  unfolding printed
  line-printed n = rw (le-ltb longest_text (length s) h, ne_eqb (judged s).error 0 n)

-- what is printed of a text that is refused
module _ (s : List ℕ) (error line : ℕ) (w : why_text error line ≡ printed s) where
  why_said : (refusal : Refusal) → number_lem refusal.fault ≡ error → refusal.line ≡ line → TextRefused s refusal
  why_said refusal a b = record { said = (λ i. why_text (a i) (b i)) ∙ w }

  -- what was returned is that refusal
  refused-made : (r : Result ℕ Refusal) (new : List ℕ) → made_lem r ≡ refused_with error line → (error ≡ 0 → ⊥) → Makes s new r
  refused-made (Ok size) new e n = absurd (n (sym (ap (λ (x : Made). x.error) e)))
  refused-made (Err refusal) new e n = why_said refusal (ap (λ (x : Made). x.error) e) (ap (λ (x : Made). x.line) e)

module _ (s out : List ℕ) {new : List ℕ} (r : Result ℕ Refusal) (m : MadeAs (make_exit s out) (made_lem r) new) (room : length out ≡ 65100) where
  abbrev is : {x : MadeExit} → make_exit s out ≡ x → made_lem r ≡ x.made
  is e = m.made ∙ ap (λ (x : MadeExit). x.made) e

  makes_long : longest_text < length s → Makes s new r
  makes_long h = refused-made s long_text 0 (sym (long-printed s h)) r new (is (too_long s out h)) (λ z. absurd (omega arith))

  makes_line : length s ≤ longest_text → ((judged s).error ≡ 0 → ⊥) → Makes s new r
  makes_line h n = refused-made s (judged s).error (judged s).line (sym (line-printed s h n)) r new (is (bad_line s out h n)) n

  table_made : length s ≤ longest_text → (judged s).error ≡ 0 → (q : Result ℕ Refusal) → made_lem q ≡ made_lem (Ok (length (table_said s))) → new ≡ table_said s ++ drop (length (table_said s)) out → Makes s new q
  table_made h e (Ok size) is_made out-is =
      let size_is : size ≡ length (table_said s) = ap (λ (x : Made). x.size) is_made in
      let long : length new ≡ length (table_said s) + length (drop (length (table_said s)) out) = ap length out-is ∙ length-append (table_said s) (drop (length (table_said s)) out) in
      let part : take size new ≡ table_said s = (λ i. take (size_is i) (out-is i)) ∙ take_at (table_said s) (drop (length (table_said s)) out) (length (table_said s)) refl in
      record {
        size-fits = omega arith;
        small = omega (arith, said-short s e);
        said = (λ i. size_text (size_is i) ++ part i) ∙ sym (table-printed s h e);
      }
  table_made h e (Err refusal) is_made out-is = absurd (numbered refusal.fault (ap (λ (x : Made). x.error) is_made))

  makes_table : length s ≤ longest_text → (judged s).error ≡ 0 → Makes s new r
  makes_table h e =
      let short : length (table_said s) ≤ length out = omega (arith, said-short s e) in
      let exit = with-room s out h e short in
      table_made h e r (is exit) (m.out ∙ ap (λ (x : MadeExit). x.out) exit)

  makes_by : (t u : Bool) → ltb longest_text (length s) ≡ t → eqb (judged s).error 0 ≡ u → Makes s new r
  makes_by true u a b = makes_long (ltb-true longest_text (length s) a)
  makes_by false true a b = makes_table (ltb-false longest_text (length s) a) (eqb-true (judged s).error 0 b)
  makes_by false false a b = makes_line (ltb-false longest_text (length s) a) (eqb-false (judged s).error 0 b)

  pub makes : Makes s new r
  makes = makes_by (ltb longest_text (length s)) (eqb (judged s).error 0) refl refl
