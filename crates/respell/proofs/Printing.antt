-- What is printed is what is said of all that standard input had.
use Prim.Native.Nat.{ℕ, ◌≤◌, ◌<◌}
use native.Mathlib.Omega.{arith}
use mathlib.Core.Path.{◌≡◌, refl, sym, ap, ◌∙◌}
use mathlib.Core.Bool.{Bool, true, false, cond}
use mathlib.Core.List.{List, [], ◌++◌, append-nil}
use mathlib.Core.Option.{Option, none, some}
use borrow.Author.Tests.{lt-ltb, ltb-false}
use lib.Dec.{ltb}
use lib.ListN.{length, take, drop, replicate, length-replicate}
use lib.Seq.{take_at}
use Rattle.rules.specs.Bytes.{Bytes}
use Rattle.rules.specs.Answer.{answer, refusal, too_long_lem, no_room_for_text, longest}
use Rattle.rules.specs.Texts.{text_exit, refuse}
use Rattle.rules.specs.Rewrite.{rewritten, rewrite_by, rewrite_exit}
use Rattle.rules.specs.Listing.{answer_line}
use Rattle.rules.specs.declared.Answer.{Answer}
use Rattle.claims.proofs.Rewriting.{wish13}
use Rattle.text.specs.Writer.{Wrote}
use Rattle.listing.proofs.Placed.{held}
use Rattle.inputs.specs.Begun.{Begun}
use Rattle.inputs.proofs.Came.{all_read, refusal-printed}
use Rattle.respell.specs.Respelled.{printed, respelled}

-- ---- what is printed doesn't depend on the buffer, if that is as long as the stream
-- what is printed of a stream that is rewritten
abbrev whole : List ℕ → List ℕ
whole r = answer_line (answer 0 (length r) 0 0) ++ r

text-printed : (r out : List ℕ) → ¬ ((text_exit r out).answer.number ≡ no_room_for_text) → printed (text_exit r out) ≡ whole r
unfolding printed text_exit
text-printed r out h = go (ltb (length out) (length r)) h
  where
    go : (b : Bool) → ¬ ((cond b (refuse no_room_for_text out) (record { answer = answer 0 (length r) 0 0; out = r ++ drop (length r) out })).answer.number ≡ no_room_for_text)
        → printed (cond b (refuse no_room_for_text out) (record { answer = answer 0 (length r) 0 0; out = r ++ drop (length r) out })) ≡ whole r
    go true n = absurd (n refl)
    go false n = ap (λ x. answer_line (answer 0 (length r) 0 0) ++ x) (take_at r (drop (length r) out) (length r) refl)

by_cases : (b : Bool) (o : Option (List ℕ)) (out out' : List ℕ)
    → ¬ ((cond b (refuse too_long_lem out) (rewrite_by o out)).answer.number ≡ no_room_for_text) → ¬ ((cond b (refuse too_long_lem out') (rewrite_by o out')).answer.number ≡ no_room_for_text)
    → printed (cond b (refuse too_long_lem out) (rewrite_by o out)) ≡ printed (cond b (refuse too_long_lem out') (rewrite_by o out'))
unfolding printed
by_cases true o out out' h k = refl
by_cases false none out out' h k = refl
by_cases false (some r) out out' h k = text-printed r out h ∙ sym (text-printed r out' k)

same-printed : (s out : List ℕ) → Bytes s → length s ≤ length out → printed (rewrite_exit s out) ≡ respelled s
unfolding respelled rewrite_exit
same-printed s out small h =
    let room = replicate {A = ℕ} (length s) 0 in
    by_cases (ltb longest (length s)) (rewritten s) out room
    (wish13.room-enough s out small h) (wish13.room-enough s room small (omega (arith, length-replicate {A = ℕ} (length s) 0)))

pub too_long : (s : List ℕ) → longest < length s → respelled s ≡ answer_line (refusal too_long_lem)
unfolding respelled printed rewrite_exit
too_long s h = rw (lt-ltb longest (length s) h) (append-nil (answer_line (refusal too_long_lem)))

-- ---- printed
module _ (s out : List ℕ) {x old new : List ℕ} {a : Answer} {end : ℕ} (answered : a ≡ (rewrite_exit s out).answer) (left : x ≡ (rewrite_exit s out).out) (line : Wrote old 0 (answer_line a) new end) where
  pub all-printed : length (answer_line a) ≤ length old → Bytes s → length s ≤ length out → (input : List ℕ) → Begun s false input → take end new ++ take a.first x ≡ respelled input
  unfolding printed
  all-printed h small room input b =
      ap (λ l. l ++ take a.first x) (held line h)
      ∙ rw (answered, left) refl
      ∙ same-printed s out small room
      ∙ ap respelled (all_read b refl)

pub long-printed : {read old new : List ℕ} {end : ℕ} → Wrote old 0 (answer_line (refusal too_long_lem)) new end → 64 ≤ length old → longest ≤ length read
    → (input : List ℕ) → Begun read true input → take end new ++ [] ≡ respelled input
long-printed w h l input b = append-nil _ ∙ refusal-printed too_long w h l input b

-- ---- as many bytes as the answer says are there
pub first_fits : (s out : List ℕ) {a : Answer} → a ≡ (rewrite_exit s out).answer → a.first ≤ length out
unfolding rewrite_exit text_exit
first_fits s out {a} e = let f : a.first ≡ (rewrite_exit s out).answer.first = ap (λ (z : Answer). z.first) e in omega (arith, go (ltb longest (length s)) (rewritten s))
  where
    fits : (r : List ℕ) (b : Bool) → ltb (length out) (length r) ≡ b
        → (cond b (refuse no_room_for_text out) (record { answer = answer 0 (length r) 0 0; out = r ++ drop (length r) out })).answer.first ≤ length out
    fits r true h = omega arith
    fits r false h = ltb-false _ _ h

    go : (b : Bool) (o : Option (List ℕ)) → (cond b (refuse too_long_lem out) (rewrite_by o out)).answer.first ≤ length out
    go true o = omega arith
    go false none = omega arith
    go false (some r) = fits r _ refl
