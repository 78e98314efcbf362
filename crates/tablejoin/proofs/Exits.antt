-- The answer to two tables by its cases, and what is said of each.
use Prim.Native.Nat.{ℕ, ◌≤◌}
use native.Mathlib.Omega.{arith}
use mathlib.Core.Path.{◌≡◌, refl, sym, ap, ◌∙◌}
use mathlib.Core.Bool.{Bool, true, false, cond, not, ◌&&◌}
use mathlib.Core.List.{List, ◌++◌, append-nil}
use borrow.Author.Tests.{ltb-false, eq-eqb, ne_eqb, not-false}
use lib.Dec.{ltb}
use lib.ListN.{length, take, drop, length-append, length-replicate}
use lib.Seq.{take_at}
use Rattle.rules.specs.Answer.{answer, refusal, bad_table, no_room_for_text, other_head, two_rows, more_scopes}
use Rattle.rules.specs.Texts.{TextExit, text_exit, refuse}
use Rattle.rules.specs.CodeTable.{scopes, well_formed_lem}
use Rattle.rules.specs.Join.{join_scopes, scopes_agree, same_head_lem, joined, join_exit}
use Rattle.rules.specs.Listing.{answer_line}
use Rattle.rules.specs.declared.Answer.{Answer}
use Rattle.rules.proofs.ListLaws.{and_l, and_r}
use Rattle.listing.proofs.Longest.{answer-short}
use Rattle.joinwhy.specs.Why.{why}
use Rattle.joinwhy.proofs.Longest.{why-short}
use Rattle.tablejoin.specs.Said.{room, join_answer, after_line_lem, said}

if_either : (P : TextExit → Type 0) (b : Bool) (x y : TextExit) → (b ≡ true → P x) → (b ≡ false → P y) → P (cond b x y)
if_either P true x y f g = f refl
if_either P false x y f g = g refl

module _ (t t' out : List ℕ) where
  abbrev written : TextExit
  written = record { answer = answer 0 (length (joined t t')) 0 0; out = joined t t' ++ drop (length (joined t t')) out }

  by_cases : (P : TextExit → Type 0) → P (refuse bad_table out) → ((well_formed_lem t && well_formed_lem t') ≡ true → P (refuse other_head out)) → P (refuse two_rows out) → P (refuse more_scopes out) → P (refuse no_room_for_text out)
      → (length (joined t t') ≤ length out → P written) → P (join_exit t t' out)
  unfolding join_exit text_exit
  by_cases P bad heads rows many full whole =
      if_either P (not (well_formed_lem t && well_formed_lem t')) _ _ (λ e. bad) (λ w.
      if_either P (not (same_head_lem t t')) _ _ (λ e. heads (not-false (well_formed_lem t && well_formed_lem t') w)) (λ e.
      if_either P (not (scopes_agree (scopes t) (scopes t'))) _ _ (λ e. rows) (λ e.
      if_either P (ltb 64 (length (join_scopes (scopes t) (scopes t')))) _ _ (λ e. many) (λ e.
      if_either P (ltb (length out) (length (joined t t'))) _ _ (λ e. full) (λ e. whole (ltb-false _ _ e))))))

  no_0 : (n : ℕ) → (n ≡ 0 → ⊥) → {P : Type 0} → n ≡ 0 → P
  no_0 n h e = absurd (h e)

  -- on 0 the buffer begins with the joined table
  pub joined-fits : (join_exit t t' out).answer.number ≡ 0 → (join_exit t t' out).answer.first ≤ length out
  joined-fits =
      by_cases (λ e. e.answer.number ≡ 0 → e.answer.first ≤ length out) (λ e. omega arith) (λ w e. omega arith) (λ e. omega arith) (λ e. omega arith) (λ e. omega arith)
      (λ h e. h)

  pub joined-there : (join_exit t t' out).answer.number ≡ 0 → take (join_exit t t' out).answer.first (join_exit t t' out).out ≡ joined t t'
  joined-there =
      by_cases (λ e. e.answer.number ≡ 0 → take e.answer.first e.out ≡ joined t t')
      (no_0 bad_table (λ e. omega arith)) (λ w. no_0 other_head (λ e. omega arith)) (no_0 two_rows (λ e. omega arith)) (no_0 more_scopes (λ e. omega arith)) (no_0 no_room_for_text (λ e. omega arith))
      (λ h e. take_at (joined t t') (drop (length (joined t t')) out) (length (joined t t')) refl)

  -- ---- at most 65,151 bytes are said: 51 for the line of the answer
  refused-short : (n : ℕ) → n ≤ more_scopes → (n ≡ 0 → ⊥) → (n ≡ other_head → (well_formed_lem t ≡ true) × (well_formed_lem t' ≡ true)) → length (answer_line (refusal n) ++ after_line_lem t t' (refusal n)) ≤ 65151
  unfolding after_line_lem
  refused-short n h d w =
      rw (ne_eqb n 0 d)
      (simp length-append (omega (arith, answer-short (refusal n) (omega arith) (omega arith) (omega arith) (omega arith), why-short n t t' w)))

  not_heads : (n : ℕ) → (n ≡ other_head → ⊥) → n ≡ other_head → (well_formed_lem t ≡ true) × (well_formed_lem t' ≡ true)
  not_heads n h e = absurd (h e)

  joined-short : (size : ℕ) → size ≡ length (joined t t') → size ≤ 65100 → length (answer_line (answer 0 size 0 0) ++ after_line_lem t t' (answer 0 size 0 0)) ≤ 65151
  unfolding after_line_lem
  joined-short size e h =
      simp length-append (omega (arith, answer-short (answer 0 size 0 0) (omega arith) (omega arith) (omega arith) (omega arith)))

  exit-short : length out ≡ 65100 → length (answer_line (join_exit t t' out).answer ++ after_line_lem t t' (join_exit t t' out).answer) ≤ 65151
  exit-short r =
      by_cases (λ e. length (answer_line e.answer ++ after_line_lem t t' e.answer) ≤ 65151)
      (refused-short bad_table (omega arith) (λ e. omega arith) (not_heads bad_table (λ e. omega arith)))
      (λ w. refused-short other_head (omega arith) (λ e. omega arith) (λ e. (and_l (well_formed_lem t) (well_formed_lem t') w, and_r (well_formed_lem t) (well_formed_lem t') w)))
      (refused-short two_rows (omega arith) (λ e. omega arith) (not_heads two_rows (λ e. omega arith)))
      (refused-short more_scopes (omega arith) (λ e. omega arith) (not_heads more_scopes (λ e. omega arith)))
      (refused-short no_room_for_text (omega arith) (λ e. omega arith) (not_heads no_room_for_text (λ e. omega arith)))
      (λ h. joined-short (length (joined t t')) refl (omega arith))

  -- a table that isn't well formed
  exit_bad : (well_formed_lem t && well_formed_lem t') ≡ false → join_exit t t' out ≡ refuse bad_table out
  unfolding join_exit
  exit_bad w = rw w

-- ---- what is said
pub room-is : length room ≡ 65100
unfolding room
room-is = length-replicate {A = ℕ} 65100 0

module _ (t t' : List ℕ) where
  pub said-refused : {a : Answer} → a ≡ (join_exit t t' room).answer → (a.number ≡ 0 → ⊥) → said t t' ≡ answer_line a ++ why a.number t t'
  unfolding said join_answer after_line_lem
  said-refused {a} e h = rw (← e, ne_eqb a.number 0 h)

  pub said-joined : {a : Answer} {x : List ℕ} → a ≡ (join_exit t t' room).answer → x ≡ (join_exit t t' room).out → a.number ≡ 0 → said t t' ≡ answer_line a ++ take a.first x
  unfolding said join_answer after_line_lem
  said-joined {a} {x} e q h =
      let n : (join_exit t t' room).answer.number ≡ 0 = sym (ap (λ (z : Answer). z.number) e) ∙ h in
      let j : take a.first x ≡ joined t t' = rw (e, q) (joined-there t t' room n) in
      rw (← e, eq-eqb a.number 0 h, j)

  pub first_fits : {a : Answer} → a ≡ (join_exit t t' room).answer → a.number ≡ 0 → a.first ≤ 65100
  first_fits {a} e h =
      let n : (join_exit t t' room).answer.number ≡ 0 = sym (ap (λ (z : Answer). z.number) e) ∙ h in
      let l : (join_exit t t' room).answer.first ≤ length room = joined-fits t t' room n in
      let f : a.first ≡ (join_exit t t' room).answer.first = ap (λ (z : Answer). z.first) e in
      omega (arith, room-is)

  pub said-short : length (said t t') ≤ 65151
  unfolding said join_answer
  said-short = exit-short t t' room room-is

  pub said_bad : (well_formed_lem t && well_formed_lem t') ≡ false → said t t' ≡ answer_line (refusal bad_table)
  unfolding said join_answer after_line_lem why
  said_bad w = ap (λ (e : TextExit). answer_line e.answer ++ after_line_lem t t' e.answer) (exit_bad t t' room w) ∙ append-nil (answer_line (refusal bad_table))
