-- What a buffer holds after a text was written, and so what the functions that write a whole text answer; the parts of a GUID's text.
use mathlib.Core.Path.{◌≡◌, refl, sym, ap, ◌∙◌}
use mathlib.Core.List.{List, [], ◌∷◌, ◌++◌, append_assoc}
use Prim.Native.Nat.{ℕ, suc, ◌+◌, ◌≤◌, ◌<◌}
use native.Mathlib.Omega.{arith}
use native.Mathlib.Nat.{zero-add}
use native.Mathlib.Numerals.{add-one}
use borrow.Author.Tests.{lt-ltb, le-ltb, eq-eqb, ne_eqb}
use lib.ListN.{length, set, take, drop, length-set}
use lib.Seq.{sets, sets-eq}
use Rattle.rules.specs.Lists.{text}
use Rattle.rules.specs.Digits.{hex}
use Rattle.rules.specs.declared.Answer.{Answer}
use Rattle.rules.specs.Answer.{answer, refusal, no_room_for_text, not_aguid}
use Rattle.rules.specs.Texts.{TextExit, hexes, guid_text_lem, text_exit, guid_exit}
use Rattle.text.specs.Writer.{Buffer, push, write, Wrote}

-- where there is room, the text stands there, and all else is as it was
room : (o : List ℕ) (a : ℕ) (x : List ℕ) → a + length x ≤ length o → write (o, a) x ≡ (sets o a x, a + length x)
unfolding write push
room o a [] h = let e : a ≡ a + 0 = omega arith in ap (λ (n : ℕ). (o, n)) e
room o a (b ∷ x) h =
    let g : a < length o = omega arith in
    let k : suc a + length x ≤ length (set o a b) = simp length-set (omega arith) in
    let e : suc a + length x ≡ a + suc (length x) = omega arith in
    rw (lt-ltb a (length o) g, add-one) (room (set o a b) (suc a) x k ∙ ap (λ (n : ℕ). (sets (set o a b) (suc a) x, n)) e)

module _ {o x n : List ℕ} {a b : ℕ} (w : Wrote o a x n b) (h : a + length x ≤ length o) where
  both : ◌≡◌ {A = Buffer} (n, b) (sets o a x, a + length x)
  both = sym w.is ∙ room o a x h

  pub next : b ≡ a + length x
  next = ap (λ (s : Buffer). s.1) both

  pub all : n ≡ take a o ++ x ++ drop (a + length x) o
  all = ap (λ (s : Buffer). s.0) both ∙ sets-eq x o a h

pub stands : {o x : List ℕ} {a : ℕ} → a + length x ≤ length o → Wrote o a x (take a o ++ (x ++ drop (a + length x) o)) (a + length x)
stands {o} {x} {a} h = record { is = room o a x h ∙ ap (λ (l : List ℕ). (l, a + length x)) (sets-eq x o a h ∙ append_assoc (take a o) x (drop (a + length x) o)) }

-- ---- the exit of a writer of a text t
module _ (t o : List ℕ) where
  pub no-room-exit : length o < length t → text_exit t o ≡ record { answer = refusal no_room_for_text; out = o }
  unfolding text_exit
  no-room-exit h = rw (lt-ltb (length o) (length t) h)

  pub room-exit : {n : List ℕ} {e : ℕ} → Wrote o 0 t n e → length t ≤ length o → text_exit t o ≡ record { answer = answer 0 (length t) 0 0; out = n }
  unfolding text_exit
  room-exit {n} {e} w h =
      let k : 0 + length t ≤ length o = omega arith in
      let d : n ≡ t ++ drop (length t) o = all w k ∙ rw (zero-add (length t)) in
      rw (le-ltb (length o) (length t) h) (ap (λ (l : List ℕ). record { answer = answer 0 (length t) 0 0; out = l }) (sym d))

-- an answer and a buffer are those of an exit
pub shown : {x : TextExit} {a r : Answer} {n : List ℕ} → x ≡ record { answer = a; out = n } → r ≡ a → (r ≡ x.answer) × (n ≡ x.out)
shown e q = (q ∙ sym (ap (λ (x : TextExit). x.answer) e), sym (ap (λ (x : TextExit). x.out) e))

-- ---- GUID text
module _ (g : List ℕ) where
  pub guid-length : length (guid_text_lem g) ≡ 38
  unfolding guid_text_lem hexes hex
  guid-length = refl

  -- as it is written, two bytes of the GUID at a time
  pub guid_parts : guid_text_lem g ≡ text "{" ++ (hexes g (3 ∷ 2 ∷ []) ++ (hexes g (1 ∷ 0 ∷ [])
      ++ (text "-" ++ (hexes g (5 ∷ 4 ∷ [])
      ++ (text "-" ++ (hexes g (7 ∷ 6 ∷ [])
      ++ (text "-" ++ (hexes g (8 ∷ 9 ∷ [])
      ++ (text "-" ++ (hexes g (10 ∷ 11 ∷ []) ++ (hexes g (12 ∷ 13 ∷ []) ++ (hexes g (14 ∷ 15 ∷ [])
      ++ text "}"))))))))))))
  unfolding guid_text_lem hexes hex
  guid_parts = refl

  pub guid-exit : (o : List ℕ) → length g ≡ 16 → guid_exit g o ≡ text_exit (guid_text_lem g) o
  unfolding guid_exit
  guid-exit o h = rw (eq-eqb (length g) 16 h)

  pub no-guid-exit : (o : List ℕ) → (length g ≡ 16 → ⊥) → guid_exit g o ≡ record { answer = refusal not_aguid; out = o }
  unfolding guid_exit
  no-guid-exit o h = rw (ne_eqb (length g) 16 h)
