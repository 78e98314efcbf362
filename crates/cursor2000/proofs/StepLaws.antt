-- The entries of an Access 2000 stream are read by their steps; and what the head after a run says.
use Prim.Native.Nat.{ℕ, ◌+◌, ◌<◌}
use native.Mathlib.Omega.{arith}
use mathlib.Core.Path.{◌≡◌, refl, ap}
use mathlib.Core.List.{List}
use mathlib.Core.Option.{Option, none, some}
use lib.Dec.{eqb}
use Rattle.rules.specs.Lists.{◌>>=◌}
use Rattle.rules.specs.Bytes.{Bytes, byte_at, half_at_lem}
use Rattle.rules.specs.Tree.{Entries, levels_at}
use Rattle.rules.specs.Access2000.{Prop, run_at, head_at_lem, close_at, entry_at, entries_at}
use Rattle.rules.proofs.ListLaws.{Every, every_if, every_then, every_when, every_at}
use Rattle.walk2000.proofs.Extents.{half-small}
use Rattle.cursor.specs.Walk.{Step, close_by, entry_by}
use Rattle.cursor.specs.Stack.{count_of}
use Rattle.cursor2000.specs.Steps.{step_at, list_at_lem}

-- ---- an entry by its step
abbrev step_in : ℕ → List Prop → Option ℕ × ℕ → Option (Step Prop)
step_in t ps h = some (record { type = t; props = ps; children = h.0; next = h.1 })

pub entry-same : (s : List ℕ) (below : ℕ → ℕ → Option (Entries Prop × ℕ)) (p : ℕ) → entry_at s below p ≡ entry_by (step_at s) below p
unfolding entry_at close_at entry_by close_by step_at
entry-same s below p = go (half_at_lem s p) (run_at s (p + 2))
  where
    heads : (t : ℕ) (ps : List Prop) (h : Option (Option ℕ × ℕ)) → (h >>= close_at below t ps) ≡ (h >>= step_in t ps >>= close_by below)
    heads t ps none = refl
    heads t ps (some x) = refl

    go : (a : Option ℕ) (r : Option (List Prop × ℕ)) → (a >>= λ t. r >>= λ x. head_at_lem s x.1 >>= close_at below t x.0)
        ≡ (a >>= (λ t. r >>= λ x. head_at_lem s x.1 >>= step_in t x.0) >>= close_by below)
    go none r = refl
    go (some t) none = refl
    go (some t) (some x) = heads t x.0 (head_at_lem s x.1)

pub entries_same : (s : List ℕ) (d n p : ℕ) → entries_at d s n p ≡ levels_at (entry_by (step_at s)) d n p
unfolding entries_at
entries_same s d n p = ap (λ one. levels_at one d n p) (λ i below q. entry-same s below q i)

-- ---- a count fits its word
abbrev CountSmall : Option ℕ × ℕ → Type 0
CountSmall x = count_of x.0 < 65536

head_small : (s : List ℕ) → Bytes s → (p : ℕ) → Every CountSmall (head_at_lem s p)
unfolding head_at_lem
head_small s h p =
    every_when CountSmall (byte_at s p) _ λ b _.
    every_if CountSmall (eqb b 0xFD) _ _ (λ _. omega arith) λ _.
    every_if CountSmall (eqb b 0xFE) _ _ (λ _. omega arith) λ _.
    every_if CountSmall (eqb b 0xFF) _ _ (λ _. every_then (λ n. n < 65536) CountSmall (half_at_lem s (p + 1)) _ (half-small s h (p + 1)) λ n m. m) λ _. tt

pub count_small : (s : List ℕ) → Bytes s → (p m e : ℕ) → head_at_lem s p ≡ some (some m, e) → m < 65536
count_small s h p m e r = every_at CountSmall (head_at_lem s p) (some m, e) (head_small s h p) r

-- ---- after a run
pub list_some : (s : List ℕ) (q : ℕ) (list : Option ℕ) (e : ℕ) → head_at_lem s q ≡ some (list, e) → list_at_lem s q ≡ some (count_of list, e)
unfolding list_at_lem
list_some s q list e r = rw r
