-- What stands after a run is written as its piece says, with the type of the entry that follows.
use Prim.Native.Nat.{ℕ, ◌+◌, ◌≤◌, ◌<◌}
use native.Mathlib.Omega.{arith}
use mathlib.Core.Path.{◌≡◌, refl, sym, ap, subst, ◌∙◌}
use mathlib.Core.Bool.{false}
use mathlib.Core.List.{List, [], ◌++◌, append_assoc}
use mathlib.Core.Option.{Option, none, some}
use lib.Dec.{eqb}
use lib.ListN.{length}
use borrow.Author.Tests.{ne_eqb, le-ltb}
use Rattle.rules.specs.Bytes.{Bytes, byte_at, half_at_lem}
use Rattle.rules.specs.Access2000.{property_at, goes_on_lem, head_at_lem}
use Rattle.rules.specs.Rewrite.{count_bytes}
use Rattle.rules.proofs.ListLaws.{Every, every_if, every_when, every_at}
use Rattle.rules.proofs.Access2000Laws.{Within, property-within}
use Rattle.rewrite.specs.declared.Piece.{Piece}
use Rattle.rewrite.specs.Pieces.{head_bytes, Left, prop, head, After, stop, entry, Rest, ended, going, AfterType, between, piece_bytes, Goes, Spells}
use Rattle.rewrite.proofs.Slices.{none_between, between_join, byte-is, two_is}

-- what a list begins with: any number of entries but one has two bytes after 0xFF
record Head (s : List ℕ) (p : ℕ) (h : Option ℕ × ℕ) : Type 0 where
  there : p < length s
  forth : p + 1 ≤ h.1
  counted : (n : ℕ) → h.0 ≡ some n → ¬ (n ≡ 1) → (h.1 ≡ p + 1 + 2) × (half_at_lem s (p + 1) ≡ some n)

head-is : (s : List ℕ) (p : ℕ) → Every (Head s p) (head_at_lem s p)
unfolding head_at_lem
head-is s p =
    every_when (Head s p) (byte_at s p) _ λ b f.
    let l : p < length s = (byte-is s p b f).0 in
    every_if (Head s p) (eqb b 0xFD) _ _ (λ _. record { there = l; forth = omega arith; counted = λ n e f. cc }) λ _.
    every_if (Head s p) (eqb b 0xFE) _ _ (λ _. record { there = l; forth = omega arith; counted = λ n e f. absurd (f (let z : n ≡ 1 = cc in z)) }) λ _.
    every_if (Head s p) (eqb b 0xFF) _ _
    (λ _. every_when (Head s p) (half_at_lem s (p + 1)) _ λ m h. record { there = l; forth = omega arith; counted = λ n e f. (refl, h ∙ e) })
    λ _. tt

-- ---- the type that follows
record Typed (s rest : List ℕ) (e end : ℕ) : Type 0 where
  order : e ≤ end
  inside : end ≤ length s
  later : List ℕ
  is : rest ≡ between s e end ++ later
  then : Rest s later end

past_end : (s : List ℕ) → half_at_lem s (length s) ≡ none
unfolding half_at_lem byte_at
past_end s = rw (le-ltb (length s) (length s) (omega arith))

module _ (s : List ℕ) (small : Bytes s) where
  typed : {rest : List ℕ} {e end : ℕ} → After s rest e → AfterType s e end → Typed s rest e end
  typed {end = end} stop t =
      let h : end ≡ length s = t.none-there (past_end s) in
      record { order = omega arith; inside = omega arith; later = []; is = rw (h, none_between s (length s)); then = rw h ended }
  typed {e = e} {end = end} (entry {type = type} {rest = rest} f l) t =
      let h : end ≡ e + 2 = t.there type f in
      let two = two_is s small e type f in
      record { order = omega arith; inside = omega (arith, two.within); later = rest; is = rw (h, two.stands); then = rw h (going l) }

  head_at : {p : ℕ} {list : Option ℕ} {e : ℕ} → head_at_lem s p ≡ some (list, e) → Head s p (list, e)
  head_at {p} {list} {e} k = every_at (Head s p) (head_at_lem s p) (list, e) (head-is s p) k

  -- there is a byte where something is left
  pub left-inside : {left : List ℕ} {p : ℕ} → Left s left p → p < length s
  left-inside (prop {p = p} {q = q} g e l) = let w = every_at (Within s p) (property_at s p) q (property-within s p) e in omega arith
  left-inside (head g e a) = (head_at e).there

  module _ (p : ℕ) (stops : goes_on_lem s p ≡ false) where
    module _ (x : Piece) where
      abbrev Opened : Option ℕ → ℕ → Type 0
      Opened list e = (p ≤ x.keep) × (x.keep + 1 ≤ x.start) × (x.start ≤ e) × (head_bytes list ++ between s e x.next ≡ piece_bytes s p x)

      spells_by : {list : Option ℕ} {e : ℕ} → head_at_lem s p ≡ some (list, e) → AfterType s e x.next → (e ≤ x.next → Opened list e) → Spells s p x
      spells_by {list} {e} k t o = record { so = λ left l. go l }
        where
          from : {rest : List ℕ} → After s rest e → Goes s (head_bytes list ++ rest) p x
          from {rest} a =
              let w = typed a t in
              let v = o w.order in
              record {
                order = record { kept = v.0; replaced = v.1; ends = omega (arith, v.2, w.order) };
                inside = w.inside;
                later = w.later;
                is = ap (λ l. head_bytes list ++ l) w.is ∙ sym (append_assoc (head_bytes list) (between s e x.next) w.later) ∙ ap (λ l. l ++ w.later) v.3;
                then = w.then;
              }

          go : {left : List ℕ} → Left s left p → Goes s left p x
          go (prop g f l) = cc
          go (head {e = e'} {list = list'} {rest = rest} g f a) =
              let same : ◌≡◌ {A = Option ℕ × ℕ} (list', e') (list, e) = cc in
              let a' : After s rest e = subst (λ h. After s rest h.1) same a in
              subst (λ h. Goes s (head_bytes h.0 ++ rest) p x) (sym same) (from a')

    -- the end of an entry
    pub plain_spells : {e end : ℕ} → head_at_lem s p ≡ some (none, e) → AfterType s e end → Spells s p (record { keep = p; lead = 0xFD; start = e; next = end })
    plain_spells k t = spells_by _ k t λ l. (omega arith, (head_at k).forth, omega arith, rw (none_between s p))

    -- a list of one
    pub one_spells : {n e end : ℕ} → head_at_lem s p ≡ some (some n, e) → AfterType s e end → n ≡ 1 → Spells s p (record { keep = p; lead = 0xFE; start = e; next = end })
    unfolding count_bytes
    one_spells k t h = spells_by _ k t λ l. (omega arith, (head_at k).forth, omega arith, rw (none_between s p, h))

    -- any other list, as it stands
    pub many_spells : {n e end : ℕ} → head_at_lem s p ≡ some (some n, e) → AfterType s e end → ¬ (n ≡ 1) → Spells s p (record { keep = p; lead = 0xFF; start = p + 1; next = end })
    unfolding count_bytes
    many_spells {n} {e} {end} k t h =
        let c = (head_at k).counted n refl h in
        let two = two_is s small (p + 1) n c.1 in
        let at : e ≡ p + 1 + 2 = c.0 in
        spells_by _ k t λ l.
        (omega arith, omega arith, omega arith, rw (ne_eqb n 1 h, none_between s p, between_join s (p + 1) (p + 1 + 2) end (omega arith) (omega arith), two.stands, at))
