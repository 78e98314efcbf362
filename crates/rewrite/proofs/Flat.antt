-- A stream that fits a reading has its tree left to write, from byte 10 on.
use Prim.Native.Nat.{ℕ, zero, suc, ◌+◌, ◌≤◌, ◌<◌}
use native.Mathlib.Omega.{arith}
use mathlib.Core.Path.{◌≡◌, refl, ap, ◌∙◌}
use mathlib.Core.Bool.{true, false}
use mathlib.Core.List.{List, [], ◌∷◌, ◌++◌, append_assoc, append-nil}
use mathlib.Core.Option.{Option, none, some}
use lib.Dec.{eqb}
use lib.ListN.{length}
use borrow.Author.Tests.{eqb-true}
use Rattle.rules.specs.Lists.{◌>>=◌, concat}
use Rattle.rules.specs.Bytes.{half_at_lem, two_bytes_lem}
use Rattle.rules.specs.Tree.{Entry, plain, parent, Entries, many_at, levels_at}
use Rattle.rules.specs.Access2000.{Prop, property_at, goes_on_lem, run_of, run_at, head_at_lem, close_at, entry_at, entries_at, stream_of}
use Rattle.rules.specs.Rewrite.{property_bytes, run_bytes, many, count_bytes, entry_bytes, entries_bytes, tree_bytes}
use Rattle.rules.proofs.ListLaws.{Every, every_if, every_then, every_when}
use Rattle.rules.proofs.Access2000Laws.{property-within, past_end}
use Rattle.rewrite.specs.Pieces.{head_bytes, Left, prop, head, After, stop, entry}

module _ (s : List ℕ) where
  -- before what is left after a run, the run is left; a run ends where none goes on
  record RunLeft (p : ℕ) (x : List Prop × ℕ) : Type 0 where
    stops : goes_on_lem s x.1 ≡ false
    so : {rest : List ℕ} → Left s rest x.1 → Left s (run_bytes s x.0 ++ rest) p

  none_left : (p : ℕ) → goes_on_lem s p ≡ false → RunLeft p ([], p)
  unfolding concat
  none_left p h = record { stops = h; so = λ l. l }

  more_left : (p : ℕ) (q : Prop) (x : List Prop × ℕ) → goes_on_lem s p ≡ true → property_at s p ≡ some q → RunLeft (q.start + q.size) x → RunLeft p (q ∷ x.0, x.1)
  unfolding concat
  more_left p q x g e h = record { stops = h.stops; so = λ {rest} l. rw (append_assoc (property_bytes s q) (run_bytes s x.0) rest) (prop g e (h.so l)) }

  runs_left : (k p : ℕ) → length s ≤ k + p → Every (RunLeft p) (run_of k s p)
  unfolding run_of
  runs_left zero p l = none_left p (past_end s p (omega arith))
  runs_left (suc k) p l =
      every_if (RunLeft p) (goes_on_lem s p) _ _
      (λ g. every_when (RunLeft p) (property_at s p) _ λ q e.
      let w = within q e in
      every_then (RunLeft (q.start + q.size)) (RunLeft p) (run_of k s (q.start + q.size)) _ (runs_left k (q.start + q.size) (omega arith)) λ x h. more_left p q x g e h)
      λ g. none_left p g
    where
      within : (q : Prop) → property_at s p ≡ some q → p < q.start + q.size
      within q e = let h = property-within s p in (rw e at h).0

  run-left : (p : ℕ) → Every (RunLeft p) (run_at s p)
  unfolding run_at
  run-left p = runs_left (length s) p (omega arith)

  -- ---- before what is left after entries, the entries are left
  abbrev EntryLeft : ℕ → Entry Prop × ℕ → Type 0
  EntryLeft p x = (rest : List ℕ) → After s rest x.1 → After s (entry_bytes s x.0 ++ rest) p

  -- as many as were asked for
  record EntriesLeft (n p : ℕ) (x : Entries Prop × ℕ) : Type 0 where
    as_many : many x.0 ≡ n
    so : {rest : List ℕ} → After s rest x.1 → After s (entries_bytes s x.0 ++ rest) p

  -- a run and what stands after it
  opened : (p : ℕ) (x : List Prop × ℕ) {list : Option ℕ} {e : ℕ} {rest : List ℕ} → RunLeft p x → head_at_lem s x.1 ≡ some (list, e) → After s rest e
      → Left s (run_bytes s x.0 ++ (head_bytes list ++ rest)) p
  opened p x h k a = h.so (head h.stops k a)

  module _ (below : ℕ → ℕ → Option (Entries Prop × ℕ)) (deeper : (n q : ℕ) → Every (EntriesLeft n q) (below n q)) where
    close_left : (p t : ℕ) (x : List Prop × ℕ) → half_at_lem s p ≡ some t → RunLeft (p + 2) x → (list : Option ℕ) (e : ℕ) → head_at_lem s x.1 ≡ some (list, e)
        → Every (EntryLeft p) (elim list [ none ↦ some (plain t x.0, e) | some n ↦ below n e >>= λ l. some (parent t x.0 l.0, l.1) ])
    unfolding entry_bytes
    close_left p t x f h none e k = λ rest a.
        let l = entry f (opened (p + 2) x h k a) in
        rw (append_assoc (two_bytes_lem t) (run_bytes s x.0 ++ (0xFD ∷ [])) rest, append_assoc (run_bytes s x.0) (0xFD ∷ []) rest) l
    close_left p t x f h (some n) e k = every_then (EntriesLeft n e) (EntryLeft p) (below n e) _ (deeper n e) λ y z rest a.
        let l = entry f (opened (p + 2) x h k (z.so a)) in
        let nested : (two_bytes_lem t ++ (run_bytes s x.0 ++ (count_bytes n ++ entries_bytes s y.0))) ++ rest ≡ two_bytes_lem t ++ (run_bytes s x.0 ++ (count_bytes n ++ (entries_bytes s y.0 ++ rest))) = simp append_assoc in
        rw (z.as_many, nested) l

    entry-left : (p : ℕ) → Every (EntryLeft p) (entry_at s below p)
    unfolding entry_at close_at
    entry-left p =
        every_when (EntryLeft p) (half_at_lem s p) _ λ t f.
        every_then (RunLeft (p + 2)) (EntryLeft p) (run_at s (p + 2)) _ (run-left (p + 2)) λ x h.
        every_when (EntryLeft p) (head_at_lem s x.1) _ λ y k. close_left p t x f h y.0 y.1 k

    many-left : (n p : ℕ) → Every (EntriesLeft n p) (many_at (entry_at s below) n p)
    unfolding many_at many entries_bytes
    many-left zero p = record { as_many = refl; so = λ a. a }
    many-left (suc n) p =
        every_then (EntryLeft p) (EntriesLeft (suc n) p) (entry_at s below p) _ (entry-left p) λ x w.
        every_then (EntriesLeft n x.1) (EntriesLeft (suc n) p) (many_at (entry_at s below) n x.1) _ (many-left n x.1) λ y v.
        record { as_many = omega (arith, v.as_many); so = λ {rest} a. rw (append_assoc (entry_bytes s x.0) (entries_bytes s y.0) rest) (w _ (v.so a)) }

  entries_left : (d n p : ℕ) → Every (EntriesLeft n p) (entries_at d s n p)
  unfolding entries_at levels_at many entries_bytes
  entries_left zero zero p = record { as_many = refl; so = λ a. a }
  entries_left zero (suc n) p = tt
  entries_left (suc d) n p = many-left (levels_at (entry_at s) d) (entries_left d) n p

  -- ---- the whole
  abbrev pub TreeLeft : List Prop × Entries Prop → Type 0
  TreeLeft x = Left s (tree_bytes s x) 10

  pub stream-left : Every TreeLeft (stream_of s)
  unfolding stream_of tree_bytes
  stream-left =
      every_then (RunLeft 10) TreeLeft (run_at s 10) _ (run-left 10) λ x h.
      every_when TreeLeft (head_at_lem s x.1) _ λ y k.
      every_when TreeLeft y.0 _ λ n o.
      every_then (EntriesLeft n y.1) TreeLeft (entries_at 256 s n y.1) _ (entries_left 256 n y.1) λ z w.
      every_if TreeLeft (eqb z.1 (length s)) (some (x.0, z.0)) none
      (λ t. let e : z.1 ≡ length s = eqb-true _ _ t in
      let a : After s (entries_bytes s z.0 ++ []) y.1 = w.so (rw e stop) in
      let l = opened 10 x h (k ∙ ap (λ i. some (i, y.1)) o) a in
      rw w.as_many (rw append-nil at l))
      λ _. tt
