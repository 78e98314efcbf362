-- What is read takes a byte for each entry and each property, or more.
use Prim.Native.Nat.{ℕ, zero, suc, ◌+◌, ◌≤◌, ◌<◌}
use native.Mathlib.Omega.{arith}
use mathlib.Core.List.{List}
use mathlib.Core.Option.{Option, none, some}
use lib.ListN.{length}
use lib.Dec.{eqb}
use Rattle.rules.specs.Lists.{◌>>=◌}
use Rattle.rules.specs.Bytes.{byte_at, half_at_lem}
use Rattle.rules.specs.Tree.{Entries, plain, parent}
use Rattle.rules.specs.Access2000.{Prop, goes_on_lem, property_at, run_of, run_at, head_at_lem, close_at, entry_at, entries_at}
use Rattle.rules.proofs.ListLaws.{Every, every_if, every_then, every_when}
use Rattle.rules.proofs.Access2000Laws.{Within, property-within}
use Rattle.rows.proofs.LevelLaws.{EntryGrows, EntriesGrow, Below, levels_grow}

abbrev RunGrows : ℕ → List Prop × ℕ → Type 0
RunGrows p x = p + length x.0 ≤ x.1

runs_grow : (k : ℕ) (s : List ℕ) (p : ℕ) → Every (RunGrows p) (run_of k s p)
unfolding run_of
runs_grow zero s p = omega arith
runs_grow (suc k) s p =
    every_if (RunGrows p) (goes_on_lem s p) _ _
    (λ _. every_then (Within s p) (RunGrows p) (property_at s p) _ (property-within s p) λ q h.
    every_then (RunGrows (q.start + q.size)) (RunGrows p) (run_of k s (q.start + q.size)) _ (runs_grow k s (q.start + q.size)) λ x g. omega arith)
    λ _. omega arith

pub run_grows : (s : List ℕ) (p : ℕ) → Every (RunGrows p) (run_at s p)
unfolding run_at
run_grows s p = runs_grow (length s) s p

abbrev HeadGrows : ℕ → Option ℕ × ℕ → Type 0
HeadGrows p x = p < x.1

pub head_grows : (s : List ℕ) (p : ℕ) → Every (HeadGrows p) (head_at_lem s p)
unfolding head_at_lem
head_grows s p =
    every_when (HeadGrows p) (byte_at s p) _ λ b _.
    every_if (HeadGrows p) (eqb b 0xFD) _ _ (λ _. omega arith) λ _.
    every_if (HeadGrows p) (eqb b 0xFE) _ _ (λ _. omega arith) λ _.
    every_if (HeadGrows p) (eqb b 0xFF) _ _ (λ _. every_when (HeadGrows p) (half_at_lem s (p + 1)) _ λ n _. omega arith) λ _. tt

module _ (below : ℕ → ℕ → Option (Entries Prop × ℕ)) (deeper : Below below) where
  close_grows : (type : ℕ) (ps : List Prop) (p : ℕ) (h : Option ℕ × ℕ) → p + length ps < h.1 → Every (EntryGrows p) (close_at below type ps h)
  unfolding close_at
  close_grows type ps p h l = go h.0
    where
      go : (o : Option ℕ) → Every (EntryGrows {P = Prop} p) (elim o [ none ↦ some (plain type ps, h.1) | some n ↦ below n h.1 >>= λ l. some (parent type ps l.0, l.1) ])
      go none = omega arith
      go (some n) = every_then (EntriesGrow h.1) (EntryGrows p) (below n h.1) _ (deeper n h.1) λ x g. omega arith

  pub entry_grows : (s : List ℕ) (p : ℕ) → Every (EntryGrows p) (entry_at s below p)
  unfolding entry_at
  entry_grows s p =
      every_when (EntryGrows p) (half_at_lem s p) _ λ type _.
      every_then (RunGrows (p + 2)) (EntryGrows p) (run_at s (p + 2)) _ (run_grows s (p + 2)) λ x g.
      every_then (HeadGrows x.1) (EntryGrows p) (head_at_lem s x.1) _ (head_grows s x.1) λ h l. close_grows type x.0 p h (omega arith)

pub entries_grow : (d : ℕ) (s : List ℕ) → Below (entries_at d s)
unfolding entries_at
entries_grow d s n p = levels_grow (entry_at s) (λ below deeper. entry_grows below deeper s) d n p
