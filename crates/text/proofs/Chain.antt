-- One text written after another, and what a writer leaves as it is: laws that every writer of text cites.
use mathlib.Core.Path.{◌≡◌, refl, sym, ap, subst, ◌∙◌}
use mathlib.Core.Bool.{Bool, true, false, cond}
use mathlib.Core.List.{List, [], ◌∷◌, ◌++◌}
use Prim.Native.Nat.{ℕ, ◌+◌, ◌≤◌, ◌<◌}
use borrow.Author.Tests.{lt-ltb, le-ltb}
use lib.Dec.{ltb}
use lib.ListN.{length, set, length-set}
use Rattle.text.specs.Writer.{Buffer, push, write, Wrote}

write-append : (s : Buffer) (a b : List ℕ) → write s (a ++ b) ≡ write (write s a) b
unfolding write
write-append s [] b = refl
write-append s (x ∷ a) b = write-append (push s x) a b

-- nothing, and one text after another
pub nothing : {o : List ℕ} {a : ℕ} → Wrote o a [] o a
unfolding write
nothing = record { is = refl }

infixr 5 ◌⨟◌
pub ◌⨟◌ : {o x n y p : List ℕ} {a b c : ℕ} → Wrote o a x n b → Wrote n b y p c → Wrote o a (x ++ y) p c
◌⨟◌ {o} {x} {n} {y} {p} {a} {b} {c} v w = record { is = write-append (o, a) x y ∙ ap (λ (s : Buffer). write s y) v.is ∙ w.is }

-- the same text by another name
pub wrote_as : {o x y n : List ℕ} {a b : ℕ} → Wrote o a x n b → x ≡ y → Wrote o a y n b
wrote_as {o} {n = n} {a} {b} w e = subst (λ (t : List ℕ). Wrote o a t n b) e w

-- a byte, with room and without
pub byte : {o : List ℕ} {a b : ℕ} → a < length o → Wrote o a (b ∷ []) (set o a b) (a + 1)
unfolding write push
byte {o} {a} h = record { is = rw (lt-ltb a (length o) h) }

pub no_room : {o : List ℕ} {a b : ℕ} → length o ≤ a → Wrote o a (b ∷ []) o a
unfolding write push
no_room {o} {a} h = record { is = rw (le-ltb a (length o) h) }

-- the buffer stays as long as it is, and the place within it
pushed : (t : Bool) (o : List ℕ) (a b : ℕ) → length (cond {A = Buffer} t (set o a b, a + 1) (o, a)).0 ≡ length o
pushed true o a b = length-set o a b
pushed false o a b = refl

length-write : (s : Buffer) (x : List ℕ) → length (write s x).0 ≡ length s.0
unfolding write push
length-write s [] = refl
length-write s (b ∷ x) = length-write (push s b) x ∙ pushed (ltb s.1 (length s.0)) s.0 s.1 b

pub same : {o x n : List ℕ} {a b : ℕ} → Wrote o a x n b → length n ≡ length o
same {o} {x} {n} {a} {b} w = sym (ap (λ (s : Buffer). length s.0) w.is) ∙ length-write (o, a) x
