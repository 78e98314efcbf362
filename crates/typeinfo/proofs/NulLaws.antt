-- Names that a NUL or the end of the stream ends.
use Prim.Native.Nat.{ℕ, ◌+◌, ◌-◌, ◌≤◌, ◌<◌, min}
use native.Mathlib.Omega.{arith}
use native.Mathlib.Numerals.{add-one}
use mathlib.Core.Path.{◌≡◌, refl, sym, ◌∙◌}
use mathlib.Core.List.{List, [], ◌∷◌}
use lib.ListN.{length, get_or, drop, length-drop}
use lib.Seq.{drop-cons}
use borrow.Author.Tests.{eq-eqb, ne_eqb}
use Rattle.rules.specs.TypeInfo.{before_nul, nul_terminated}
use Rattle.rules.proofs.TypeInfoLaws.{name-within, next-within, at_nul, at-end}
use Rattle.typeinfo.specs.Entries.{as_named}
use Rattle.typeinfo.specs.declared.Named.{Named}

-- ---- the bytes before a NUL, one at a time
pub nul_here : (s : List ℕ) (i : ℕ) → i < length s → get_or s i 0 ≡ 0 → before_nul (drop i s) ≡ 0
unfolding before_nul
nul_here s i h e = rw (drop-cons s i 0 h, eq-eqb (get_or s i 0) 0 e)

pub nul_next : (s : List ℕ) (i : ℕ) → i < length s → (get_or s i 0 ≡ 0 → ⊥) → before_nul (drop i s) ≡ before_nul (drop (i + 1) s) + 1
unfolding before_nul
nul_next s i h e = rw (drop-cons s i 0 h, ne_eqb (get_or s i 0) 0 e, add-one i)

no_nul : (l : List ℕ) → length l ≡ 0 → before_nul l ≡ 0
unfolding before_nul
no_nul [] e = refl
no_nul (b ∷ l) e = absurd (omega arith)

pub nul_end : (s : List ℕ) (i : ℕ) → length s ≤ i → before_nul (drop i s) ≡ 0
nul_end s i h = no_nul (drop i s) (length-drop i s ∙ omega arith)

-- ---- the name at p, where its bytes end at e
pub next_of : (s : List ℕ) (p : ℕ) (n : Named) → n ≡ as_named (nul_terminated s p) → n.next ≤ length s
next_of s p n e = rw e (next-within s p)

named : (s : List ℕ) (p size next cut : ℕ) → size ≡ before_nul (drop p s) → next ≡ min (p + before_nul (drop p s) + 1) (length s) → cut ≡ (nul_terminated s p).cut
    → ◌≡◌ {A = Named} (record { start = p; size = size; next = next; cut = cut }) (as_named (nul_terminated s p))
unfolding nul_terminated
named s p size next cut a b c = λ i. record { start = p; size = a i; next = b i; cut = c i }

pub ended-by_nul : (s : List ℕ) (p e : ℕ) → e ≡ p + before_nul (drop p s) → e < length s
    → ◌≡◌ {A = Named} (record { start = p; size = e - p; next = e + 1; cut = 0 }) (as_named (nul_terminated s p))
ended-by_nul s p e h k = named s p (e - p) (e + 1) 0 (omega arith) (omega arith) (sym (at_nul s p (omega arith)).0)

pub ended-by-end : (s : List ℕ) (p e : ℕ) → e ≡ p + before_nul (drop p s) → p ≤ length s → length s ≤ e
    → ◌≡◌ {A = Named} (record { start = p; size = e - p; next = e; cut = 1 }) (as_named (nul_terminated s p))
ended-by-end s p e h k l = named s p (e - p) e 1 (omega arith) (omega (arith, name-within s p k)) (sym (at-end s p (omega arith)).0)
