-- Matches, one at a time: the bound on the number of steps does not matter.
use Prim.Native.Nat.{ℕ, zero, suc, ◌+◌, ◌-◌, ◌≤◌, ◌<◌}
use native.Mathlib.Numerals.{add-one}
use native.Mathlib.Omega.{arith}
use mathlib.Core.Path.{◌≡◌, refl, sym, ap, ap₂, ◌∙◌}
use mathlib.Core.Bool.{Bool, true, false, cond, not, ◌&&◌}
use mathlib.Core.List.{List, [], ◌∷◌, ◌++◌, map}
use lib.Dec.{ltb, leb, eqb}
use lib.ListN.{length}
use borrow.Author.Tests.{lt-leb, leb-true, ltb-true, ltb-false, eqb-true}
use Rattle.rules.specs.Lists.{keep}
use Rattle.rules.specs.Bytes.{byte, u16, u32}
use Rattle.rules.specs.Tree.{Node, no_parent, node_in}
use Rattle.rules.specs.Later.{Prop, group_at, match_at, matches_of, matches_from, groups_of, is_empty, scan_from}
use Rattle.rules.proofs.ListLaws.{and_l, and_r}
use Rattle.matchlater.specs.Match.{ruled_out, none_of_lem, NextMatch}

pub match_past : (s : List ℕ) (p : ℕ) → length s < p + 6 → match_at s p ≡ false
unfolding match_at
match_past s p h = rw (lt-leb (p + 6) (length s))

pub match-room : (s : List ℕ) (p : ℕ) → match_at s p ≡ true → p + 6 ≤ length s
unfolding match_at
match-room s p t = leb-true _ _ (and_l (leb (p + 6) (length s)) _ (and_l (leb (p + 6) (length s) && eqb (u16 s p) 0x14) _ t))

enough : (k j : ℕ) (s : List ℕ) (p : ℕ) → length s ≤ k + p → length s ≤ j + p → matches_of k s p ≡ matches_of j s p
unfolding matches_of
enough zero zero s p hk hj = refl
enough zero (suc j) s p hk hj = rw (match_past s p (omega arith)) (enough zero j s (p + 1) (omega arith) (omega arith))
enough (suc k) zero s p hk hj = rw (match_past s p (omega arith)) (enough k zero s (p + 1) (omega arith) (omega arith))
enough (suc k) (suc j) s p hk hj =
    ap₂ (λ a b. cond (match_at s p) (p ∷ a) b) (enough k j s (p + 6) (omega arith) (omega arith)) (enough k j s (p + 1) (omega arith) (omega arith))

pub match-step : (s : List ℕ) (p : ℕ) → matches_from s p ≡ cond (match_at s p) (p ∷ matches_from s (p + 6)) (matches_from s (p + 1))
unfolding matches_from matches_of
match-step s p = enough (length s) (suc (length s)) s p (omega arith) (omega arith)

pub match-here : (s : List ℕ) (p : ℕ) → match_at s p ≡ true → matches_from s p ≡ p ∷ matches_from s (p + 6)
match-here s p t = match-step s p ∙ rw t

pub match_skipped : (s : List ℕ) (p : ℕ) → match_at s p ≡ false → matches_from s p ≡ matches_from s (p + 1)
match_skipped s p t = match-step s p ∙ rw t

pub match-end : (s : List ℕ) (p : ℕ) → length s ≤ p → matches_from s p ≡ []
unfolding matches_from matches_of
match-end s p h = enough (length s) zero s p (omega arith) (omega arith)

-- ---- places skipped
on-to : (k : ℕ) (s : List ℕ) (p : ℕ) → ((q : ℕ) → p ≤ q → q < p + k → match_at s q ≡ false) → matches_from s p ≡ matches_from s (p + k)
on-to zero s p h = ap (matches_from s) (omega arith)
on-to (suc k) s p h =
    on-to k s p (λ q a b. h q a (omega arith)) ∙ match_skipped s (p + k) (h (p + k) (omega arith) (omega arith)) ∙ ap (matches_from s) (omega arith)

-- fewer than six bytes hold no match
pub match_none : (s : List ℕ) (p : ℕ) → p ≤ length s → length s < p + 6 → matches_from s p ≡ matches_from s (length s)
match_none s p h l = on-to (length s - p) s p (λ q a b. match_past s q (omega arith)) ∙ ap (matches_from s) (omega arith)

-- ---- places ruled out
match-bytes : (s : List ℕ) (q : ℕ) → match_at s q ≡ true → (byte s q ≡ 0x14) × (byte s (q + 2) ≡ 0x0A)
unfolding match_at u16 u32
match-bytes s q t =
    let room = leb (q + 6) (length s) in
    let two = eqb (u16 s q) 0x14 in
    let four = eqb (u32 s (q + 2)) 0x0A in
    let a : u16 s q ≡ 0x14 = eqb-true _ _ (and_r room two (and_l (room && two) four t)) in
    let b : u32 s (q + 2) ≡ 0x0A = eqb-true _ _ (and_r (room && two) four t) in
    (omega (arith, a), omega (arith, b))

no-match : (s : List ℕ) (p : ℕ) → ruled_out (byte s p) (byte s (p + 2)) ≡ true → match_at s p ≡ false
no-match s p h = go (match_at s p) refl
  where
    go : (t : Bool) → match_at s p ≡ t → t ≡ false
    go true e =
        let m = match-bytes s p e in
        sym h ∙ ap₂ ruled_out m.0 m.1
    go false e = refl

pub leap_one : (s : List ℕ) (p : ℕ) → ruled_out (byte s p) (byte s (p + 2)) ≡ true → matches_from s p ≡ matches_from s (p + 1)
leap_one s p h = match_skipped s p (no-match s p h)

pub none_first : (s : List ℕ) (p : ℕ) → true ≡ none_of_lem 0 s p
unfolding none_of_lem
none_first s p = refl

pub none_more : (n : ℕ) (s : List ℕ) (p : ℕ) → (none_of_lem n s p && ruled_out (byte s (p + n)) (byte s (p + n + 2))) ≡ none_of_lem (n + 1) s p
unfolding none_of_lem
none_more n s p = ap (λ k. none_of_lem k s p) (sym (add-one n))

pub leap : (n : ℕ) (s : List ℕ) (p : ℕ) → none_of_lem n s p ≡ true → matches_from s p ≡ matches_from s (p + n)
unfolding none_of_lem
leap zero s p h = ap (matches_from s) (omega arith)
leap (suc n) s p h =
    let a = none_of_lem n s p in
    let b = ruled_out (byte s (p + n)) (byte s (p + n + 2)) in
    leap n s p (and_l a b h) ∙ leap_one s (p + n) (and_r a b h) ∙ ap (matches_from s) (omega arith)

-- ---- the groups of the matches: each reaches to the next match or the end
groups_next : (s : List ℕ) (a b : ℕ) → b ≤ length s → (b < length s → match_at s b ≡ true)
    → groups_of s (a ∷ matches_from s b) ≡ (group_at s b a).props ∷ groups_of s (matches_from s b)
unfolding groups_of
groups_next s a b w m = go (ltb b (length s)) refl
  where
    go : (t : Bool) → ltb b (length s) ≡ t → groups_of s (a ∷ matches_from s b) ≡ (group_at s b a).props ∷ groups_of s (matches_from s b)
    go true e = rw (match-here s b (m (ltb-true _ _ e)))
    go false e =
        let h = ltb-false b (length s) e in
        let z : length s ≡ b = omega arith in
        rw (match-end s b h, z)

abbrev pub scanned_node : List Prop → Node Prop
scanned_node qs = node_in 0 no_parent 0 qs

-- "reported with type 0 unless it has no property"
abbrev pub shown : List Prop → List (Node Prop)
shown qs = cond (not (is_empty qs)) (scanned_node qs ∷ []) []

keep-shown : (qs : List Prop) (r : List (List Prop)) → map scanned_node (keep (λ qs. not (is_empty qs)) (qs ∷ r)) ≡ shown qs ++ map scanned_node (keep (λ qs. not (is_empty qs)) r)
unfolding keep
keep-shown [] r = refl
keep-shown (q ∷ qs) r = refl

pub scan-same : (s : List ℕ) (p r : ℕ) → NextMatch s p r → scan_from s p ≡ scan_from s r
unfolding scan_from
scan-same s p r n = ap (λ ms. map scanned_node (keep (λ qs. not (is_empty qs)) (groups_of s ms))) n.same

pub scan_step : (s : List ℕ) (a b : ℕ) → match_at s a ≡ true → NextMatch s (a + 6) b → scan_from s a ≡ shown (group_at s b a).props ++ scan_from s b
unfolding scan_from
scan_step s a b t n =
    ap (λ gs. map scanned_node (keep (λ qs. not (is_empty qs)) gs))
    (ap (groups_of s) (match-here s a t ∙ ap (λ ms. a ∷ ms) n.same) ∙ groups_next s a b n.within n.here)
    ∙ keep-shown (group_at s b a).props (groups_of s (matches_from s b))

pub scan-end : (s : List ℕ) (p : ℕ) → length s ≤ p → scan_from s p ≡ []
unfolding scan_from groups_of keep
scan-end s p h = rw (match-end s p h)
