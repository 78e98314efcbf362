-- Bytes copied several at once, where there is room.
use mathlib.Core.Path.{◌≡◌, refl, sym, ap, subst, ◌∙◌}
use mathlib.Core.List.{List, [], ◌∷◌, ◌++◌}
use Prim.Native.Nat.{ℕ, ◌+◌, ◌≤◌, ◌<◌}
use native.Mathlib.Omega.{arith}
use borrow.Rule.Slice.PartMut.{put_mid}
use lib.ListN.{length, get_or, take, drop, length-drop, length-take, length-append}
use lib.Seq.{drop-drop}
use Rattle.std.proofs.Common.{take-append-drop}
use Rattle.text.specs.Writer.{Wrote}
use Rattle.text.proofs.Chain.{nothing, same}
use Rattle.text.proofs.Written.{stands, next}

-- what a slice of n bytes from `at` on is written with
pub set_wrote : {o x y : List ℕ} {at n k : ℕ} → at + n ≤ length o → k ≡ n → length y ≡ length (take k (drop at o)) → y ≡ x → Wrote o at x (put_mid at k o y) (at + n)
set_wrote {o} {x} {y} {at} {n} {k} h q l e =
    let m : k ≡ length x = omega (arith, ap length e, length-take k (drop at o), length-drop at o) in
    let d : drop k (drop at o) ≡ drop (at + length x) o = ap (λ (i : ℕ). drop i (drop at o)) m ∙ drop-drop (length x) at o in
    let w : Wrote o at x (take at o ++ (x ++ drop (at + length x) o)) (at + length x) = stands (omega arith) in
    subst (λ (l : List ℕ). Wrote o at x l (at + n)) (sym (λ i. take at o ++ (e i ++ d i))) (subst (λ (i : ℕ). Wrote o at x (take at o ++ (x ++ drop (at + length x) o)) i) {x = at + length x} {y = at + n} (omega arith) w)

-- fewer than one byte is left
pub none_left : {o s : List ℕ} {a : ℕ} → length s < 1 → Wrote o a s o a
none_left {s = []} h = nothing
none_left {s = b ∷ s} h = absurd (omega arith)

-- a piece of what is left is written, for all of which there is room
pub parts : {left piece more : List ℕ} (k : ℕ) → piece ≡ take k left → more ≡ drop k left → left ≡ piece ++ more
parts {left} k p m = sym ((λ i. p i ++ m i) ∙ take-append-drop k left)

pub piece_room : {o new left piece : List ℕ} (more : List ℕ) {a b : ℕ} → left ≡ piece ++ more → a + length left ≤ length o → Wrote o a piece new b → b + length more ≤ length new
piece_room {piece = piece} more e h w = omega (arith, ap length e, length-append piece more, same w, next w (omega (arith, ap length e, length-append piece more)))

pub eight_are : (s : List ℕ) → length s ≡ 8
    → s ≡ get_or s 0 0 ∷ get_or s 1 0 ∷ get_or s 2 0 ∷ get_or s 3 0 ∷ get_or s 4 0 ∷ get_or s 5 0 ∷ get_or s 6 0 ∷ get_or s 7 0 ∷ []
eight_are [] e = absurd (omega arith)
eight_are (a ∷ []) e = absurd (omega arith)
eight_are (a ∷ b ∷ []) e = absurd (omega arith)
eight_are (a ∷ b ∷ c ∷ []) e = absurd (omega arith)
eight_are (a ∷ b ∷ c ∷ d ∷ []) e = absurd (omega arith)
eight_are (a ∷ b ∷ c ∷ d ∷ f ∷ []) e = absurd (omega arith)
eight_are (a ∷ b ∷ c ∷ d ∷ f ∷ g ∷ []) e = absurd (omega arith)
eight_are (a ∷ b ∷ c ∷ d ∷ f ∷ g ∷ h ∷ []) e = absurd (omega arith)
eight_are (a ∷ b ∷ c ∷ d ∷ f ∷ g ∷ h ∷ i ∷ []) e = refl
eight_are (a ∷ b ∷ c ∷ d ∷ f ∷ g ∷ h ∷ i ∷ j ∷ s) e = absurd (omega arith)
