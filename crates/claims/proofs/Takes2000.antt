-- How many bytes the entries and properties of an Access 2000 stream take at least.
use Prim.Native.Nat.{ℕ, zero, suc, ◌+◌, ◌*◌, ◌≤◌, ◌<◌}
use native.Mathlib.Omega.{arith}
use mathlib.Core.Path.{◌≡◌, refl, ◌∙◌}
use mathlib.Core.List.{List, map}
use mathlib.Core.Logic.{◌⊎◌, inl, inr}
use mathlib.Core.Option.{Option, none, some}
use lib.Dec.{eqb}
use lib.ListN.{length, length-append, length-map}
use borrow.Author.Tests.{eqb-true}
use Rattle.rules.specs.Lists.{◌>>=◌, concat}
use Rattle.rules.specs.Bytes.{byte_at, half_at_lem}
use Rattle.rules.specs.Tree.{Entry, plain, parent, Entries, more, reported, nodes_of}
use Rattle.rules.specs.Access2000.{Prop, property_at, goes_on_lem, run_of, run_at, head_at_lem, close_at, entry_at, entries_at, stream_of}
use Rattle.rules.specs.Reading.{properties}
use Rattle.rules.specs.Read2000.{object_key, read2000, spot_in, node_spots, spots_of}
use Rattle.rules.proofs.ListLaws.{Every, every_if, every_then, every_when}
use Rattle.rules.proofs.Access2000Laws.{Within, property-within}
use Rattle.rules.proofs.Read2000Laws.{properties-many, controls-many}
use Rattle.claims.proofs.Levels.{levels_every}
use Rattle.claims.proofs.Amounts.{entries_in1, entries_in, props_in1, props_in, reported_less, nodes-many, each_long}

module _ (s : List ℕ) where
  -- ---- a property takes a byte, a head takes one; a list's head takes three unless it says one entry
  abbrev RunTakes : ℕ → List Prop × ℕ → Type 0
  RunTakes p x = p + length x.0 ≤ x.1

  runs_take : (k p : ℕ) → Every (RunTakes p) (run_of k s p)
  unfolding run_of
  runs_take zero p = omega arith
  runs_take (suc k) p =
      every_if (RunTakes p) (goes_on_lem s p) _ _
      (λ _. every_then (Within s p) (RunTakes p) (property_at s p) _ (property-within s p) λ q h.
      every_then (RunTakes (q.start + q.size)) (RunTakes p) (run_of k s (q.start + q.size)) _ (runs_take k (q.start + q.size)) λ x l. omega arith)
      λ _. omega arith

  run_takes : (p : ℕ) → Every (RunTakes p) (run_at s p)
  unfolding run_at
  run_takes p = runs_take (length s) p

  abbrev HeadTakes : ℕ → Option ℕ × ℕ → Type 0
  HeadTakes p h = (p + 1 ≤ h.1) × ((n : ℕ) → h.0 ≡ some n → (n ≡ 1) ⊎ (p + 3 ≤ h.1))

  head_takes : (p : ℕ) → Every (HeadTakes p) (head_at_lem s p)
  unfolding head_at_lem
  head_takes p =
      every_when (HeadTakes p) (byte_at s p) _ λ b _.
      every_if (HeadTakes p) (eqb b 0xFD) _ _ (λ _. (omega arith, λ n e. absurd (let z : ◌≡◌ {A = ℕ} 0 1 = cc in omega arith))) λ _.
      every_if (HeadTakes p) (eqb b 0xFE) _ _ (λ _. (omega arith, λ n e. inl (let z : n ≡ 1 = cc in z))) λ _.
      every_if (HeadTakes p) (eqb b 0xFF) _ _ (λ _. every_when (HeadTakes p) (half_at_lem s (p + 1)) _ λ n _. (omega arith, λ n e. inr (omega arith))) λ _. tt

  -- ---- entries take three bytes each. One with more than 256 - level entries, itself the first, has a list of more than one somewhere, and so two bytes to spare
  record Takes1 (level p : ℕ) (x : Entry Prop × ℕ) : Type 0 where
    least : p + 3 * entries_in1 x.0 + props_in1 x.0 ≤ x.1
    spare : level ≤ 255 → 256 < level + entries_in1 x.0 → p + 3 * entries_in1 x.0 + props_in1 x.0 + 2 ≤ x.1

  record Takes (level n p : ℕ) (x : Entries Prop × ℕ) : Type 0 where
    least : p + 3 * entries_in x.0 + props_in x.0 ≤ x.1
    each : n ≤ entries_in x.0
    none : n ≡ 0 → entries_in x.0 ≡ 0
    spare : n ≡ 1 → 256 < level + entries_in x.0 → p + 3 * entries_in x.0 + props_in x.0 + 2 ≤ x.1

  some1 : (e : Entry Prop) → 1 ≤ entries_in1 e
  some1 (plain t qs) = omega arith
  some1 (parent t qs es) = omega arith

  more-take : (level n p : ℕ) (x : Entry Prop × ℕ) (y : Entries Prop × ℕ) → level ≤ 255 → Takes1 level p x → Takes level n x.1 y → Takes level (suc n) p (more x.0 y.0, y.1)
  more-take level n p x y l h k = record {
    least = omega (arith, h.least, k.least);
    each = omega (arith, some1 x.0, k.each);
    none = λ z. absurd (omega arith);
    spare = λ z m. let w = k.none (omega arith) in let v = h.spare l (omega arith) in omega (arith, k.least);
  }

  module _ (level : ℕ) (below : ℕ → ℕ → Option (Entries Prop × ℕ)) (deep : (n p : ℕ) → Every (Takes (level + 1) n p) (below n p)) where
    close_takes : (type p : ℕ) (x : List Prop × ℕ) → RunTakes (p + 2) x → (o : Option ℕ) (e : ℕ) → HeadTakes x.1 (o, e)
        → Every (Takes1 level p) (elim o [ none ↦ some (plain type x.0, e) | some n ↦ below n e >>= λ l. some (parent type x.0 l.0, l.1) ])
    close_takes type p x h none e k = record { least = omega arith; spare = λ l m. absurd (omega arith) }
    close_takes type p x h (some n) e k =
        every_then (Takes (level + 1) n e) (Takes1 level p) (below n e) _ (deep n e) λ y d. go y d (k.1 n refl)
      where
        go : (y : Entries Prop × ℕ) → Takes (level + 1) n e y → (n ≡ 1) ⊎ (x.1 + 3 ≤ e) → Takes1 level p (parent type x.0 y.0, y.1)
        go y d (inl one) = record { least = omega (arith, d.least); spare = λ l m. let v = d.spare one (omega arith) in omega arith }
        go y d (inr three) = record { least = omega (arith, d.least); spare = λ l m. omega (arith, d.least) }

    entry_takes : (p : ℕ) → Every (Takes1 level p) (entry_at s below p)
    unfolding entry_at close_at
    entry_takes p =
        every_when (Takes1 level p) (half_at_lem s p) _ λ type _.
        every_then (RunTakes (p + 2)) (Takes1 level p) (run_at s (p + 2)) _ (run_takes (p + 2)) λ x h.
        every_then (HeadTakes x.1) (Takes1 level p) (head_at_lem s x.1) _ (head_takes x.1) λ y k.
        close_takes type p x h y.0 y.1 k

  entries_take : (n p : ℕ) → Every (Takes 0 n p) (entries_at 256 s n p)
  unfolding entries_at
  entries_take =
      levels_every (entry_at s) Takes1 Takes
      (λ level p. record { least = omega arith; each = omega arith; none = λ _. refl; spare = λ z. absurd (omega arith) })
      more-take entry_takes 256 0 refl

  -- ---- the whole stream, by what is reported of it
  abbrev C : List Prop × Entries Prop → ℕ
  C x = entries_in (reported x.1)

  abbrev P : List Prop × Entries Prop → ℕ
  P x = length x.0 + props_in (reported x.1)

  record Fits (x : List Prop × Entries Prop) : Type 0 where
    least : 3 * C x + P x + 11 ≤ length s
    spare : (C x ≡ 0) ⊎ (256 < C x) → 3 * C x + P x + 13 ≤ length s

  fits_if : (own : List Prop) (p n q : ℕ) (z : Entries Prop × ℕ) → RunTakes 10 (own, p) → HeadTakes p (some n, q) → Takes 0 n q z → z.1 ≡ length s → Fits (own, z.0)
  fits_if own p n q z h k t e = record { least = omega (arith, reported_less z.0, t.least); spare = go (k.1 n refl) }
    where
      go : (n ≡ 1) ⊎ (p + 3 ≤ q) → (C (own, z.0) ≡ 0) ⊎ (256 < C (own, z.0)) → 3 * C (own, z.0) + P (own, z.0) + 13 ≤ length s
      go (inl one) (inl nothing) = omega (arith, reported_less z.0, t.least, t.each)
      go (inl one) (inr many) = let v = t.spare one (omega (arith, reported_less z.0)) in omega (arith, reported_less z.0)
      go (inr three) m = omega (arith, reported_less z.0, t.least)

  stream-fits : Every Fits (stream_of s)
  unfolding stream_of
  stream-fits =
      every_then (RunTakes 10) Fits (run_at s 10) _ (run_takes 10) λ x h.
      every_then (HeadTakes x.1) Fits (head_at_lem s x.1) _ (head_takes x.1) λ y k.
      every_when Fits y.0 _ λ n some-n.
      every_then (Takes 0 n y.1) Fits (entries_at 256 s n y.1) _ (entries_take n y.1) λ z t.
      every_if Fits (eqb z.1 (length s)) _ _ (λ e. fits_if x.0 x.1 n y.1 z h (k.0, λ m e. k.1 m (some-n ∙ e)) t (eqb-true _ _ e)) λ _. tt

  -- ---- the counts of the reading
  pub counts_2000 : (t : List ℕ) (x : List Prop × Entries Prop) → (length (read2000 t s x).controls ≡ C x) × (length (properties (read2000 t s x)) ≡ P x)
  unfolding spots_of
  counts_2000 t x =
      let n = nodes-many x.1 in
      let l : length (map (spot_in (object_key s)) x.0) ≡ length x.0 = simp length-map in
      let k = each_long node_spots (λ n. simp length-map) (nodes_of x.1) in
      (controls-many t s x ∙ n.0, properties-many t s x ∙ length-append (map (spot_in (object_key s)) x.0) (concat (map node_spots (nodes_of x.1))) ∙ omega arith)

  pub record Fits2000 (controls props : ℕ) : Type 0 where
    pub least : 3 * controls + props + 11 ≤ length s
    pub spare : (controls ≡ 0) ⊎ (256 < controls) → 3 * controls + props + 13 ≤ length s

  pub fits_2000 : (t : List ℕ) → Every (λ x. Fits2000 (length (read2000 t s x).controls) (length (properties (read2000 t s x)))) (stream_of s)
  fits_2000 t = go (stream_of s) stream-fits
    where
      go : (o : Option (List Prop × Entries Prop)) → Every Fits o → Every (λ x. Fits2000 (length (read2000 t s x).controls) (length (properties (read2000 t s x)))) o
      go none h = tt
      go (some x) h = let c = counts_2000 t x in rw (c.0, c.1) (record { least = h.least; spare = h.spare })
