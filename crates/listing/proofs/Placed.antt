-- A text written from the start of a buffer: it ends within it, and where there is room it stands there whole.
use mathlib.Core.Path.{◌≡◌, refl, ap, subst, ◌∙◌}
use mathlib.Core.Bool.{Bool, true, false, cond}
use mathlib.Core.List.{List, [], ◌∷◌}
use Prim.Native.Nat.{ℕ, ◌+◌, ◌≤◌, ◌<◌}
use native.Mathlib.Omega.{arith}
use borrow.Author.Tests.{ltb-true}
use lib.Dec.{ltb}
use lib.ListN.{length, set, take, drop, length-set}
use lib.Seq.{take_at}
use Rattle.text.specs.Writer.{Buffer, push, write, Wrote}
use Rattle.text.proofs.Written.{next, all}
use Rattle.listing.specs.Written.{Written}

-- the place reached stays within the buffer
inside-by : (t : Bool) (o : List ℕ) (a b : ℕ) → ltb a (length o) ≡ t → a ≤ length o
    → (cond {A = Buffer} t (set o a b, a + 1) (o, a)).1 ≤ length (cond {A = Buffer} t (set o a b, a + 1) (o, a)).0
inside-by true o a b e h = let g : a < length o = ltb-true a (length o) e in simp length-set (omega arith)
inside-by false o a b e h = h

inside : (s : Buffer) (x : List ℕ) → s.1 ≤ length s.0 → (write s x).1 ≤ length (write s x).0
unfolding write push
inside s [] h = h
inside s (b ∷ x) h = inside (push s b) x (inside-by (ltb s.1 (length s.0)) s.0 s.1 b refl h)

pub within : {o x n : List ℕ} {e : ℕ} → Wrote o 0 x n e → e ≤ length n
within {o} {x} {n} {e} w = subst (λ (s : Buffer). s.1 ≤ length s.0) w.is (inside (o, 0) x (omega arith))

-- a text that has room is what the buffer holds up to the place after it
pub held : {o x n : List ℕ} {e : ℕ} → Wrote o 0 x n e → length x ≤ length o → take e n ≡ x
held {o} {x} {n} {e} w h =
    let k : 0 + length x ≤ length o = omega arith in
    let q : e ≡ 0 + length x = next w k in
    let f : length x ≡ e = omega arith in
    ap (take e) (all w k) ∙ take_at x (drop (0 + length x) o) e f

pub held_whole : {o x n : List ℕ} {most e : ℕ} → Written o x most n e → most ≤ length o → take e n ≡ x
held_whole w h = held w.wrote (omega (arith, w.short))
