-- Whether a TypeInfo name was cut is told by the fifth word of its row, and only the last row can be cut.
use Prim.Native.Nat.{ℕ, zero, suc, ◌+◌, ◌%◌, ◌≤◌, ◌<◌, min}
use native.Mathlib.Omega.{arith}
use mathlib.Core.Path.{◌≡◌, refl, ap, ◌∙◌}
use mathlib.Core.Bool.{Bool, true, false, cond}
use mathlib.Core.List.{List, [], ◌∷◌}
use mathlib.Core.Logic.{◌↔◌, ◌⊎◌, inl, inr}
use borrow.Author.Tests.{leb-true, ltb-true, ltb-false, lt-leb}
use lib.Dec.{leb, ltb, eqb}
use lib.ListN.{length, get_or, drop}
use Rattle.rules.specs.Lists.{keep}
use Rattle.rules.specs.Bytes.{byte, u16, u32}
use Rattle.rules.specs.Rows.{type_info_width, row_at}
use Rattle.rules.specs.TypeInfo.{Named, Info, before_nul, nul_terminated, first_name, second_name, info_at, next_info, infos_at, is_reported_info, type_info_of, type_info_row, type_info_rows, type_info_exit}
use Rattle.rules.proofs.ListLaws.{get_d_map}
use Rattle.rules.proofs.RowsLaws.{row_of_words}
use Rattle.rules.proofs.TypeInfoLaws.{name-within, next-within, no_nul_in, at_nul, at-end, info_wide}
use Rattle.claims.specs.CutNames.{CutNames, Wish6}
use Rattle.claims.proofs.Counts.{info_many, info_counts}

-- ---- a name
-- no NUL stands in it
abbrev NoNul : List ℕ → Named → Type 0
NoNul s n = (i : ℕ) → i < n.size → ¬ (byte s (n.start + i) ≡ 0)

-- it ends at a NUL, or where the stream does; and then nothing stands after it
abbrev Ended : List ℕ → Named → ℕ → Type 0
Ended s n next =
    ((n.cut ≡ 0) × (n.start + n.size < length s) × (byte s (n.start + n.size) ≡ 0))
    ⊎ ((n.cut ≡ 1) × (n.start + n.size ≡ length s) × (next ≡ length s))

module _ (s : List ℕ) (p : ℕ) where
  name-ended : p ≤ length s → Ended s (nul_terminated s p) (nul_terminated s p).next
  unfolding nul_terminated
  name-ended h = go (ltb (p + before_nul (drop p s)) (length s)) refl
    where
      go : (b : Bool) → ltb (p + before_nul (drop p s)) (length s) ≡ b → Ended s (nul_terminated s p) (nul_terminated s p).next
      go true e = let n = at_nul s p (ltb-true _ _ e) in inl (n.0, ltb-true _ _ e, n.1)
      go false e =
          let long = ltb-false (p + before_nul (drop p s)) (length s) e in
          let n = at-end s p long in
          inr (n.0, omega (arith, name-within s p h), n.1)

  none_left : length s ≤ p → (nul_terminated s p).next ≡ length s
  unfolding nul_terminated
  none_left h = omega arith

-- ---- an entry
module _ (s : List ℕ) (p : ℕ) where
  info_no_nul : NoNul s (info_at s p).name
  unfolding info_at nul_terminated
  info_no_nul = go (eqb (second_name s p).size 0)
    where
      go : (b : Bool) → NoNul s (cond b (first_name s p) (second_name s p))
      go true = no_nul_in s (p + 8)
      go false = no_nul_in s (first_name s p).next

  next-end : (second_name s p).next ≡ length s → next_info s p ≡ length s
  unfolding next_info
  next-end e = go (eqb (u16 s p % 256) 0x77)
    where
      go : (b : Bool) → cond b (min ((second_name s p).next + 36) (length s)) (second_name s p).next ≡ length s
      go true = omega arith
      go false = e

  info_ended : p + 8 ≤ length s → Ended s (info_at s p).name (next_info s p)
  unfolding info_at
  info_ended h = go (eqb (second_name s p).size 0) (name-ended s (p + 8) h) (name-ended s (first_name s p).next (next-within s (p + 8)))
    where
      go : (b : Bool) → Ended s (first_name s p) (first_name s p).next → Ended s (second_name s p) (second_name s p).next
          → Ended s (cond b (first_name s p) (second_name s p)) (next_info s p)
      go true (inl a) c = inl a
      go true (inr a) c = inr (a.0, a.1, next-end (none_left s (first_name s p).next (omega (arith, a.2))))
      go false a (inl c) = inl c
      go false a (inr c) = inr (c.0, c.1, next-end c.2)

none-behind : (s : List ℕ) (p n : ℕ) → length s ≤ p → infos_at s p n ≡ []
unfolding infos_at
none-behind s p zero h = refl
none-behind s p (suc n) h = rw (lt-leb (p + 8) (length s) (omega arith))

-- ---- entries: each name ends so, and no entry follows one whose name was cut
abbrev Listed : List ℕ → List Info → Type 0
Listed s [] = Unit {0}
Listed s (i ∷ is) = Ended s i.name (length s) × (i.name.cut ≡ 1 → is ≡ []) × NoNul s i.name × Listed s is

told_of : (s : List ℕ) (n : Named) (next : ℕ) → Ended s n next → Ended s n (length s)
told_of s n next (inl a) = inl a
told_of s n next (inr a) = inr (a.0, a.1, refl)

cut-end : (s : List ℕ) (n : Named) (next : ℕ) → Ended s n next → n.cut ≡ 1 → next ≡ length s
cut-end s n next (inl a) e = absurd (omega (arith, a.0, e))
cut-end s n next (inr a) e = a.2

infos-listed : (s : List ℕ) (p n : ℕ) → Listed s (infos_at s p n)
unfolding infos_at
infos-listed s p zero = tt
infos-listed s p (suc n) = go (leb (p + 8) (length s)) refl (infos-listed s (next_info s p) n)
  where
    go : (b : Bool) → leb (p + 8) (length s) ≡ b → Listed s (infos_at s (next_info s p) n) → Listed s (cond b (info_at s p ∷ infos_at s (next_info s p) n) [])
    go true e rest =
        let i = info_ended s p (leb-true _ _ e) in
        (told_of s (info_at s p).name (next_info s p) i, (λ c. let end = cut-end s (info_at s p).name (next_info s p) i c in none-behind s (next_info s p) n (omega arith)), info_no_nul s p, rest)
    go false e rest = tt

kept-listed : (s : List ℕ) (is : List Info) → Listed s is → Listed s (keep is_reported_info is)
unfolding keep
kept-listed s [] h = tt
kept-listed s (i ∷ is) h = go (is_reported_info i) (kept-listed s is h.3)
  where
    go : (b : Bool) → Listed s (keep is_reported_info is) → Listed s (cond b (i ∷ keep is_reported_info is) (keep is_reported_info is))
    go true rest = (h.0, (λ c. ap (keep is_reported_info) (h.1 c)), h.2, rest)
    go false rest = rest

-- entry n of them
listed_at : (s : List ℕ) (is : List Info) (none : Info) → Listed s is → (n : ℕ) → n < length is
    → Ended s (get_or is n none).name (length s) × ((get_or is n none).name.cut ≡ 1 → n + 1 ≡ length is) × NoNul s (get_or is n none).name
listed_at s [] none h n l = absurd (omega arith)
listed_at s (i ∷ is) none h zero l = (h.0, (λ c. omega (arith, ap length (h.1 c))), h.2)
listed_at s (i ∷ is) none h (suc n) l =
    let rest = listed_at s is none h.3 n (omega arith) in
    (rest.0, (λ c. omega (arith, rest.1 c)), rest.2)

-- ---- the rows
-- what the words of a row say
abbrev RowSays : List ℕ → List ℕ → ℕ → ℕ → Type 0
RowSays s row n count =
    ((get_or row 4 0 ≡ 0) ⊎ (get_or row 4 0 ≡ 1)) ×
    ((get_or row 4 0 ≡ 1) ↔ (get_or row 2 0 + get_or row 3 0 ≡ length s))
    × ((get_or row 4 0 ≡ 0) ↔ ((get_or row 2 0 + get_or row 3 0 < length s) × (byte s (get_or row 2 0 + get_or row 3 0) ≡ 0)))
    × ((i : ℕ) → i < get_or row 3 0 → ¬ (byte s (get_or row 2 0 + i) ≡ 0))
    × (get_or row 4 0 ≡ 1 → n + 1 ≡ count)

row-says : (s : List ℕ) (i : Info) (n count : ℕ) → Ended s i.name (length s) → NoNul s i.name → (i.name.cut ≡ 1 → n + 1 ≡ count) → RowSays s (type_info_row i) n count
row-says s i n count (inl a) f l = (inl a.0, ((λ e. absurd (omega (arith, a.0, e))), λ e. absurd (omega (arith, a.1, e))), ((λ e. (a.1, a.2)), λ e. a.0), f, l)
row-says s i n count (inr a) f l = (inr a.0, ((λ e. a.1), λ e. a.0), ((λ e. absurd (omega (arith, a.0, e))), λ e. absurd (omega (arith, a.1, e.0))), f, l)

no_info : Info
no_info = record { type = 0; index = 0; name = record { start = 0; size = 0; next = 0; cut = 0 } }

module _ (s rows : List ℕ) where
  cut-names : CutNames s (type_info_exit s rows)
  unfolding type_info_rows type_info_of
  cut-names e n l =
      let c = info_counts s rows e in
      let many : n < length (type_info_of s) = omega (arith, c.first, info_many s) in
      let row = ap (row_at type_info_width n) c.words ∙ row_of_words type_info_width (type_info_rows s) _ (info_wide (type_info_of s)) n (omega (arith, c.first)) ∙ get_d_map type_info_row (type_info_of s) n no_info [] many in
      let at = listed_at s (type_info_of s) no_info (kept-listed s _ (infos-listed s 32 (u32 s 12))) n many in
      let says : RowSays s (row_at type_info_width n (type_info_exit s rows).rows) n (type_info_exit s rows).answer.first =
      rw row (row-says s (get_or (type_info_of s) n no_info) n _ at.0 at.2 (λ k. at.1 k ∙ omega (arith, c.first, info_many s))) in
      record { either = says.0; at-end = says.1; at_nul = says.2; no_nul = says.3; last = says.4 }

pub wish6 : Wish6
wish6 = record { cut-names = cut-names }
