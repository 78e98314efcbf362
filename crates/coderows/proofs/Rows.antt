-- What the search for a row comes to.
use Prim.Native.Nat.{ℕ, zero, suc, ◌+◌, ◌≤◌}
use mathlib.Core.Path.{◌≡◌, refl, ap}
use mathlib.Core.List.{List, ◌∷◌}
use Rattle.rules.specs.Lists.{find}
use Rattle.rules.specs.Bytes.{byte, u16}
use Rattle.rules.specs.CodeTable.{id_of, tie_at, ties_at, is_tied}
use Rattle.std.specs.Prelude.{None, Some}
use Rattle.coderows.specs.Look.{items_at, Sorted, as_row}
use Rattle.coderows.proofs.Halves.{Narrowed, not_there, Turn, hit}

ties_as_items : (t : List ℕ) (at n : ℕ) → ties_at t at n ≡ items_at (tie_at t) 4 at n
unfolding ties_at items_at
ties_as_items t at zero = refl
ties_as_items t at (suc n) = ap (λ l. tie_at t at ∷ l) (ties_as_items t (at + 4) n)

pub row_hit : (t : List ℕ) {start n wanted at left half mid i : ℕ} → Turn (tie_at t) id_of 4 start n wanted at left half mid i → (x k : ℕ)
    → i ≡ wanted → x ≡ u16 t (mid + 1) → k ≡ byte t (mid + 3)
    → Sorted (ties_at t start n) → Some (record { target = x; kind = k }) ≡ as_row (find (is_tied wanted) (ties_at t start n))
row_hit t {start} {n} T x k h ex ek a = rw (ex, ek, ties_as_items t start n, hit T h (rw (ties_as_items t start n) at a))

pub row-none : (t : List ℕ) {start n wanted at left : ℕ} → Narrowed (tie_at t) id_of 4 start n wanted at left → left ≤ 0
    → Sorted (ties_at t start n) → None ≡ as_row (find (is_tied wanted) (ties_at t start n))
row-none t {start} {n} N h a = rw (ties_as_items t start n, not_there N h (rw (ties_as_items t start n) at a))
