-- What the header tells of the answer, and what is written with it.
use Prim.Native.Nat.{ℕ, ◌-◌, ◌/◌, ◌≤◌, ◌<◌}
use native.Mathlib.Omega.{arith}
use mathlib.Core.Path.{◌≡◌, refl, sym, ap, ◌∙◌}
use mathlib.Core.Bool.{Bool, true, false, cond, not}
use mathlib.Core.List.{List, map}
use lib.Dec.{ltb, eqb}
use lib.ListN.{length}
use borrow.Author.Tests.{lt-ltb, le-ltb, ne_eqb, ltb-true, ltb-false}
use Rattle.rules.specs.Lists.{keep}
use Rattle.rules.specs.Bytes.{u32}
use Rattle.rules.specs.Answer.{answer, refusal, too_short_lem, other_magic, too_many_entries, too_long_lem, more_controls, longest}
use Rattle.rules.specs.Rows.{type_info_width, room, written}
use Rattle.rules.specs.TypeInfo.{infos_at, is_reported_info, type_info_of, type_info_row, type_info_rows, type_info_answer, type_info_exit}
use Rattle.rules.specs.declared.Answer.{Answer}
use Rattle.rows.specs.Put.{put}
use Rattle.rows.proofs.PutLaws.{written-put}
use Rattle.std.specs.Prelude.{Result, Ok, Err}
use Rattle.typeinfo.specs.Entries.{header_of, fit_of_lem, reported_at, answer_to}
use Rattle.typeinfo.specs.declared.Refusal.{Refusal}
use Rattle.typeinfo.specs.declared.Refusal.TheVariants.{TooLong, TooShort, OtherMagic, TooManyEntries, TooFewRows}

pub record Accepted (s : List ℕ) (count : ℕ) : Type 0 where
  pub header : 32 ≤ length s
  pub not_long : length s ≤ longest
  pub counts : count ≡ u32 s 12

-- what each header says of the stream
abbrev Told : List ℕ → Result ℕ Refusal → Type 0
Told s (Ok count) = Accepted s count
Told s (Err r) = (answer_to r).number ≡ 0 → ⊥

told : (s : List ℕ) → Told s (header_of s)
unfolding header_of
told s = go (ltb longest (length s)) refl (ltb (length s) 32) refl (not (eqb (u32 s 0) 0xACCDEAF7)) (ltb ((length s - 32) / 8) (u32 s 12))
  where
    go : (a : Bool) → ltb longest (length s) ≡ a → (b : Bool) → ltb (length s) 32 ≡ b → (c d : Bool)
        → Told s (cond a (Err TooLong) (cond b (Err TooShort) (cond c (Err OtherMagic) (cond d (Err TooManyEntries) (Ok (u32 s 12))))))
    go true p b q c d = λ e. omega arith
    go false p true q c d = λ e. omega arith
    go false p false q true d = λ e. omega arith
    go false p false q false true = λ e. omega arith
    go false p false q false false = record { header = ltb-false (length s) 32 q; not_long = ltb-false longest (length s) p; counts = refl }

pub accepted : (s : List ℕ) (count : ℕ) → header_of s ≡ Ok count → Accepted s count
accepted s count e = rw e at (told s)

-- what the room says of the fit, and the fit of the room
pub whole : (rowRoom n : ℕ) → n ≤ rowRoom → Ok (tt {0}) ≡ fit_of_lem rowRoom n
unfolding fit_of_lem
whole rowRoom n h = rw (le-ltb rowRoom n h)

pub short : (rowRoom n found : ℕ) → found ≡ n → rowRoom < found → Err (TooFewRows found) ≡ fit_of_lem rowRoom n
unfolding fit_of_lem
short rowRoom n found e h = rw (sym e, lt-ltb rowRoom found h)

module _ (rowRoom n : ℕ) where
  pub too_few : (r : Refusal) → fit_of_lem rowRoom n ≡ Err r → (rowRoom < n) × (r ≡ TooFewRows n)
  unfolding fit_of_lem
  too_few r k = go (ltb rowRoom n) refl k
    where
      go : (b : Bool) → ltb rowRoom n ≡ b → cond b (Err (TooFewRows n)) (Ok (tt {0})) ≡ Err r → (rowRoom < n) × (r ≡ TooFewRows n)
      go true e h = (ltb-true rowRoom n e, cc)
      go false e h = cc

  pub enough : (u : Unit {0}) → fit_of_lem rowRoom n ≡ Ok u → n ≤ rowRoom
  unfolding fit_of_lem
  enough u k = go (ltb rowRoom n) refl k
    where
      go : (b : Bool) → ltb rowRoom n ≡ b → cond b (Err (TooFewRows n)) (Ok (tt {0})) ≡ Ok u → n ≤ rowRoom
      go true e h = cc
      go false e h = ltb-false rowRoom n e

-- the answer after each header
abbrev answer_for : Result ℕ Refusal → Answer → Answer
answer_for (Ok count) rest = rest
answer_for (Err r) rest = answer_to r

abbrev from_here : List ℕ → ℕ → Answer
from_here s found = cond (ltb (room type_info_width s) found) (answer more_controls found 0 0) (answer 0 found 0 0)

module _ (s rows : List ℕ) where
  decided : type_info_answer s (room type_info_width rows) ≡ answer_for (header_of s) (from_here rows (length (type_info_of s)))
  unfolding type_info_answer header_of
  decided = go (ltb longest (length s)) (ltb (length s) 32) (not (eqb (u32 s 0) 0xACCDEAF7)) (ltb ((length s - 32) / 8) (u32 s 12)) (from_here rows (length (type_info_of s)))
    where
      go : (a b c d : Bool) (rest : Answer)
          → cond a (refusal too_long_lem) (cond b (refusal too_short_lem) (cond c (refusal other_magic) (cond d (refusal too_many_entries) rest)))
          ≡ answer_for (cond a (Err TooLong) (cond b (Err TooShort) (cond c (Err OtherMagic) (cond d (Err TooManyEntries) (Ok (u32 s 12)))))) rest
      go true b c d rest = refl
      go false true c d rest = refl
      go false false true d rest = refl
      go false false false true rest = refl
      go false false false false rest = refl

  -- an answer tells what is written
  exits : (a : Answer) → type_info_answer s (room type_info_width rows) ≡ a
      → (new : List ℕ) → new ≡ cond (eqb a.number 0) (written (type_info_rows s) rows) rows
      → (a ≡ (type_info_exit s rows).answer) × (new ≡ (type_info_exit s rows).rows)
  unfolding type_info_exit
  exits a e new w = (sym e, w ∙ ap (λ (g : Answer). cond (eqb g.number 0) (written (type_info_rows s) rows) rows) (sym e))

  pub refused : (r : Refusal) → header_of s ≡ Err r → (answer_to r ≡ (type_info_exit s rows).answer) × (rows ≡ (type_info_exit s rows).rows)
  refused r e =
      let z : (answer_to r).number ≡ 0 → ⊥ = rw e at (told s) in
      exits (answer_to r) (decided ∙ ap (λ h. answer_for h (from_here rows (length (type_info_of s)))) e)
      rows (ap (λ t. cond t (written (type_info_rows s) rows) rows) (sym (ne_eqb (answer_to r).number 0 z)))

  module _ (count : ℕ) (accepts : header_of s ≡ Ok count) where
    all : reported_at s 32 count ≡ type_info_of s
    unfolding reported_at type_info_of
    all = ap (λ n. keep is_reported_info (infos_at s 32 n)) (accepted s count accepts).counts

    after : (found : ℕ) → found ≡ length (reported_at s 32 count) → type_info_answer s (room type_info_width rows) ≡ from_here rows found
    after found f = decided ∙ ap (λ h. answer_for h (from_here rows (length (type_info_of s)))) accepts ∙ ap (from_here rows) (sym (f ∙ ap length all))

    pub no_room : (r : Refusal) → fit_of_lem (room type_info_width rows) (length (reported_at s 32 count)) ≡ Err r
        → (answer_to r ≡ (type_info_exit s rows).answer) × (rows ≡ (type_info_exit s rows).rows)
    no_room r e =
        let few = too_few (room type_info_width rows) (length (reported_at s 32 count)) r e in
        let n = length (reported_at s 32 count) in
        rw few.1
        (exits (answer more_controls n 0 0)
        (after n refl ∙ ap (λ t. cond t (answer more_controls n 0 0) (answer 0 n 0 0)) (lt-ltb (room type_info_width rows) n few.0))
        rows refl)

    pub all-written : (found : ℕ) → found ≡ length (reported_at s 32 count) → found ≤ room type_info_width rows
        → (new : List ℕ) → new ≡ put type_info_width rows 0 (map type_info_row (reported_at s 32 count))
        → (answer 0 found 0 0 ≡ (type_info_exit s rows).answer) × (new ≡ (type_info_exit s rows).rows)
    unfolding type_info_rows
    all-written found f h new w =
        exits (answer 0 found 0 0)
        (after found f ∙ ap (λ t. cond t (answer more_controls found 0 0) (answer 0 found 0 0)) (le-ltb (room type_info_width rows) found h))
        new (w ∙ written-put type_info_width rows (map type_info_row (reported_at s 32 count)) ∙ ap (λ l. written (map type_info_row l) rows) all)
