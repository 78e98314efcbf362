-- The scan, over the definitions: its matches are all the places from its start on where the six bytes stand, and what it reports are the groups of
-- those matches whose first property is within the group.
use Prim.Native.Nat.{ℕ, zero, suc, ◌+◌, ◌*◌, ◌-◌, ◌≤◌, ◌<◌}
use native.Mathlib.Omega.{arith}
use mathlib.Core.Path.{◌≡◌, refl, sym, ap, ◌∙◌}
use mathlib.Core.Bool.{Bool, true, false, not, ◌&&◌}
use mathlib.Core.List.{List, [], ◌∷◌, map}
use mathlib.Core.Logic.{◌↔◌, ◌⊎◌, inl, inr}
use mathlib.Core.Option.{some}
use lib.Dec.{ltb, leb, eqb}
use lib.ListN.{length, get_or, drop, length-drop}
use lib.Seq.{take_all}
use borrow.Author.Tests.{ltb-true, ltb-false, leb-true, le-leb, eqb-true}
use Rattle.rules.specs.Lists.{keep}
use Rattle.rules.specs.Bytes.{byte, byte_at, u16, u32}
use Rattle.rules.specs.Tree.{Node, no_parent, node_in}
use Rattle.rules.specs.Later.{Prop, end_at, trailer_at, property_at, is_inside, ends_group, Group, group_of, group_at, match_at, matches_of, matches_from, groups_of, is_empty, scan_from}
use Rattle.rules.proofs.ListLaws.{and_l, and_r}
use Rattle.rules.proofs.LaterLaws.{either, inside_true, group-none, group-begins}
use Rattle.claims.specs.LaterGrammar.{Ending}
use Rattle.claims.specs.LaterScan.{Match}
use Rattle.claims.proofs.Has.{◌has◌from◌to◌, here, next, byte-there, byte-is, value-is, value_there}
use Rattle.claims.proofs.LaterSound.{ends_range, goes_on}
use Rattle.claims.proofs.Each.{Each, each-then}

pub below_or : (a b : ℕ) → (a < b) ⊎ (b ≤ a)
below_or a b = go (ltb a b) refl
  where
    go : (t : Bool) → ltb a b ≡ t → (a < b) ⊎ (b ≤ a)
    go true e = inl (ltb-true a b e)
    go false e = inr (ltb-false a b e)

no : {b : Bool} → b ≡ false → b ≡ true → ⊥
no f t = let z : ◌≡◌ {A = ℕ} 0 1 = cc in omega arith

-- only asked for where there is one
abbrev pub no_node : Node Prop
no_node = node_in 0 no_parent 0 []

-- behind the trailer of the last of some properties
abbrev pub behind : ℕ → List Prop → ℕ
behind p [] = p
behind p (q ∷ qs) = behind (q.start + q.size + 4) qs

module _ (s : List ℕ) where
  -- ---- the six bytes
  abbrev pub At : ℕ → Type 0
  At p = match_at s p ≡ true

  record Six (p : ℕ) : Type 0 where
    inside : p + 6 ≤ length s
    b0 : byte s p ≡ 0x14
    b1 : byte s (p + 1) ≡ 0
    b2 : byte s (p + 2) ≡ 0x0A
    b3 : byte s (p + 3) ≡ 0
    b4 : byte s (p + 4) ≡ 0
    b5 : byte s (p + 5) ≡ 0

  pub match_numbers : (p : ℕ) → At p → (p + 6 ≤ length s) × (u16 s p ≡ 0x14) × (u32 s (p + 2) ≡ 0x0A)
  unfolding match_at
  match_numbers p t =
      let room = leb (p + 6) (length s) in
      let two = eqb (u16 s p) 0x14 in
      let four = eqb (u32 s (p + 2)) 0x0A in
      let rt = and_l (room && two) four t in
      (leb-true _ _ (and_l room two rt), eqb-true _ _ (and_r room two rt), eqb-true _ _ (and_r (room && two) four t))

  match-six : (p : ℕ) → At p → Six p
  unfolding u16 u32
  match-six p t =
      let m = match_numbers p t in
      let a : p + 2 + 1 ≡ p + 3 = omega arith in
      let b : p + 2 + 2 ≡ p + 4 = omega arith in
      let c : p + 4 + 1 ≡ p + 5 = omega arith in
      let n : byte s (p + 2) + 256 * byte s (p + 3) + 65536 * (byte s (p + 4) + 256 * byte s (p + 5)) ≡ 0x0A = rw (a, b, c) at m.2 in
      record { inside = m.0; b0 = omega (arith, m.1); b1 = omega (arith, m.1); b2 = omega arith; b3 = omega arith; b4 = omega arith; b5 = omega arith }

  six-match : (p : ℕ) → Six p → At p
  unfolding match_at u16 u32
  six-match p m =
      let a : p + 2 + 1 ≡ p + 3 = omega arith in
      let b : p + 2 + 2 ≡ p + 4 = omega arith in
      let c : p + 4 + 1 ≡ p + 5 = omega arith in
      rw (a, b, c, m.b0, m.b1, m.b2, m.b3, m.b4, m.b5, le-leb (p + 6) (length s) m.inside)

  abbrev six : List ℕ
  six = 0x14 ∷ 0x00 ∷ 0x0A ∷ 0x00 ∷ 0x00 ∷ 0x00 ∷ []

  six_stand : (p : ℕ) {e : ℕ} → s has six from p to e → Six p
  six_stand p (next h0 (next h1 (next h2 (next h3 (next h4 (next h5 here)))))) =
      let a : p + 1 + 1 ≡ p + 2 = omega arith in
      let b : p + 1 + 1 + 1 ≡ p + 3 = omega arith in
      let c : p + 1 + 1 + 1 + 1 ≡ p + 4 = omega arith in
      let d : p + 1 + 1 + 1 + 1 + 1 ≡ p + 5 = omega arith in
      record {
        inside = omega (arith, (byte-is s _ _ h5).0);
        b0 = (byte-is s _ _ h0).1;
        b1 = (byte-is s _ _ h1).1;
        b2 = rw a at (byte-is s _ _ h2).1;
        b3 = rw b at (byte-is s _ _ h3).1;
        b4 = rw c at (byte-is s _ _ h4).1;
        b5 = rw d at (byte-is s _ _ h5).1;
      }

  stands_six : {e : ℕ} (p : ℕ) → s has six from p to e → Six p
  stands_six p h = six_stand p h

  byte-at : (q p b : ℕ) → q ≡ p → p < length s → byte s p ≡ b → byte_at s q ≡ some b
  byte-at q p b e l h = rw (e, byte-there s p l, h)

  six-part : (p : ℕ) → Six p → Match s p
  six-part p m =
      let in-it = m.inside in
      (value-is (omega arith)
      (next (byte-at p p _ refl (omega arith) m.b0)
      (next (byte-at (p + 1) (p + 1) _ refl (omega arith) m.b1)
      (next (byte-at (p + 1 + 1) (p + 2) _ (omega arith) (omega arith) m.b2)
      (next (byte-at (p + 1 + 1 + 1) (p + 3) _ (omega arith) (omega arith) m.b3)
      (next (byte-at (p + 1 + 1 + 1 + 1) (p + 4) _ (omega arith) (omega arith) m.b4)
      (next (byte-at (p + 1 + 1 + 1 + 1 + 1) (p + 5) _ (omega arith) (omega arith) m.b5) here))))))
      ).0

  part-long : (p : ℕ) → Match s p → p + 6 ≤ length s
  part-long p m = go (below_or (length (drop p s)) 6)
    where
      go : (length (drop p s) < 6) ⊎ (6 ≤ length (drop p s)) → p + 6 ≤ length s
      go (inl l) = let e = ap length (sym (take_all 6 (drop p s) (omega arith)) ∙ m) in absurd (omega arith)
      go (inr l) = omega (arith, length-drop p s)

  part-six : (p : ℕ) → Match s p → Six p
  part-six p m = stands_six p (rw m at (value_there s 6 p (part-long p m)))

  -- a match by its bytes
  pub match_is : (p : ℕ) → At p ↔ Match s p
  match_is p = (λ t. six-part p (match-six p t), λ m. six-match p (part-six p m))

  -- no two matches overlap: the first byte of one stands at no other place of another
  apart : (p q : ℕ) → At p → At q → p < q → p + 6 ≤ q
  apart p q m n l = go (below_or q (p + 6))
    where
      x : Six p
      x = match-six p m

      first : byte s q ≡ 0x14
      first = (match-six q n).b0

      differs : (r b : ℕ) → q ≡ r → byte s r ≡ b → b < 0x14 → ⊥
      differs r b e h l = let y : byte s q ≡ b = ap (byte s) e ∙ h in omega (arith, first)

      at : (d : ℕ) → q ≡ p + 1 + d → d < 5 → ⊥
      at zero e l = differs (p + 1) 0 (omega arith) x.b1 (omega arith)
      at (suc zero) e l = differs (p + 2) 0x0A (omega arith) x.b2 (omega arith)
      at (suc (suc zero)) e l = differs (p + 3) 0 (omega arith) x.b3 (omega arith)
      at (suc (suc (suc zero))) e l = differs (p + 4) 0 (omega arith) x.b4 (omega arith)
      at (suc (suc (suc (suc zero)))) e l = differs (p + 5) 0 (omega arith) x.b5 (omega arith)
      at (suc (suc (suc (suc (suc d))))) e l = omega arith

      go : (q < p + 6) ⊎ (p + 6 ≤ q) → p + 6 ≤ q
      go (inl k) = absurd (at (q - (p + 1)) (omega arith) (omega arith))
      go (inr k) = k

  -- ---- all the matches from p on
  abbrev None : ℕ → ℕ → Type 0
  None p q = (a : ℕ) → p ≤ a → a < q → ¬ At a

  abbrev pub AllFrom : ℕ → List ℕ → Type 0
  AllFrom p [] = (a : ℕ) → p ≤ a → ¬ At a
  AllFrom p (a ∷ r) = (p ≤ a) × At a × None p a × AllFrom (a + 1) r

  wider : (p q : ℕ) (ms : List ℕ) → p ≤ q → None p q → AllFrom q ms → AllFrom p ms
  wider p q [] l n h = λ a k m. elim (below_or a q) [ inl b ↦ n a k b m | inr b ↦ h a b m ]
  wider p q (c ∷ r) l n h = (omega (arith, h.0), h.1, λ a k d m. elim (below_or a q) [ inl b ↦ n a k b m | inr b ↦ h.2 a b d m ], h.3)

  all_from : (k p : ℕ) → length s ≤ k + p → AllFrom p (matches_of k s p)
  unfolding matches_of
  all_from zero p l = λ a k m. omega (arith, (match_numbers a m).0)
  all_from (suc k) p l =
      either (AllFrom p) (match_at s p) _ _
      (λ m. (omega arith, m, λ a b d _. omega arith, wider (p + 1) (p + 6) (matches_of k s (p + 6)) (omega arith) (λ a b d n. omega (arith, apart p a m n (omega arith))) (all_from k (p + 6) (omega arith))))
      λ f. wider p (p + 1) (matches_of k s (p + 1)) (omega arith) (λ a b d n. let e : a ≡ p = omega arith in no f (rw e at n)) (all_from k (p + 1) (omega arith))

  pub matches_all : (p : ℕ) → AllFrom p (matches_from s p)
  unfolding matches_from
  matches_all p = all_from (length s) p (omega arith)

  -- ---- the group of a match reaches to the next one or the end
  abbrev limit_of : List ℕ → ℕ
  limit_of [] = length s
  limit_of (b ∷ r) = b

  groups_cons : (a : ℕ) (r : List ℕ) → groups_of s (a ∷ r) ≡ (group_at s (limit_of r) a).props ∷ groups_of s r
  unfolding groups_of
  groups_cons a [] = refl
  groups_cons a (b ∷ r) = refl

  -- e is within the group of the match at p
  pub record Reach (p e : ℕ) : Type 0 where
    pub to_end : e ≤ length s
    pub to-next : (q : ℕ) → p < q → At q → e ≤ q

  limit_reach : (a : ℕ) (r : List ℕ) → AllFrom (a + 1) r → (e : ℕ) → e ≤ limit_of r → Reach a e
  limit_reach a [] h e l = record { to_end = l; to-next = λ q k m. absurd (h q (omega arith) m) }
  limit_reach a (b ∷ r) h e l = record {
    to_end = omega (arith, (match_numbers b h.1).0);
    to-next = λ q k m. elim (below_or q b) [ inl d ↦ absurd (h.2 q (omega arith) d m) | inr d ↦ omega arith ];
  }

  reach_limit : (a : ℕ) (r : List ℕ) → AllFrom (a + 1) r → (e : ℕ) → Reach a e → e ≤ limit_of r
  reach_limit a [] h e x = x.to_end
  reach_limit a (b ∷ r) h e x = x.to-next b (omega (arith, h.0)) h.1

  limit_inside : (a : ℕ) (r : List ℕ) → AllFrom (a + 1) r → limit_of r ≤ length s
  limit_inside a [] h = omega arith
  limit_inside a (b ∷ r) h = omega (arith, (match_numbers b h.1).0)

  -- ---- a group, property by property: those from q on, each inside, up to a trailer that ends it or a property that isn't inside
  pub data Read (Inside : ℕ → Type 0) : List Prop → ℕ → Type 0 where
    unread : {q : ℕ} → ¬ Inside (end_at s q) → Read Inside [] q
    ended : {q : ℕ} → Inside (end_at s q) → Ending (trailer_at s q) → Read Inside (property_at s q ∷ []) q
    onward : {q : ℕ} {qs : List Prop} → Inside (end_at s q) → ¬ Ending (trailer_at s q) → Read Inside qs (end_at s q) → Read Inside (property_at s q ∷ qs) q

  inside-so : (limit p : ℕ) → end_at s p ≤ limit → is_inside s limit p ≡ true
  unfolding is_inside
  inside-so limit p l = le-leb (end_at s p) limit l

  groups_read : (Inside : ℕ → Type 0) (limit : ℕ) → ((e : ℕ) → Inside e ↔ (e ≤ limit)) → (k p : ℕ) → limit ≤ k + p → Read Inside (group_of k s limit p).props p
  unfolding group_of
  groups_read Inside limit same zero p l = unread {q = p} λ x. omega (arith, (same (end_at s p)).0 x)
  groups_read Inside limit same (suc k) p l =
      either (λ (g : Group). Read Inside g.props p) (is_inside s limit p) _ _
      (λ i. let x = (same (end_at s p)).1 (inside_true s limit p i) in
      either (λ (g : Group). Read Inside g.props p) (ends_group (trailer_at s p)) _ _ (λ t. let r = ends_range (trailer_at s p) t in ended x (omega (arith, r.0), omega (arith, r.1))) λ t.
      onward x (goes_on (trailer_at s p) t) (groups_read Inside limit same k (end_at s p) (omega arith)))
      λ i. unread {q = p} λ x. no i (inside-so limit p ((same (end_at s p)).0 x))

  pub group-read : (Inside : ℕ → Type 0) (limit p : ℕ) → limit ≤ length s → ((e : ℕ) → Inside e ↔ (e ≤ limit)) → Read Inside (group_at s limit p).props p
  unfolding group_at
  group-read Inside limit p l same = groups_read Inside limit same (length s) p (omega arith)

  -- ---- what is reported
  abbrev nodes_of : List ℕ → List (Node Prop)
  nodes_of ms = map (node_in 0 no_parent 0) (keep (λ qs. not (is_empty qs)) (groups_of s ms))

  -- the node n is the group of the match at a, from p on
  pub record FromMatch (p a : ℕ) (n : Node Prop) : Type 0 where
    pub behind : p ≤ a
    pub match : At a
    pub type : n.type ≡ 0
    pub rest : List Prop
    pub first : n.props ≡ property_at s a ∷ rest
    pub inside : Reach a (end_at s a)
    pub read : Read (Reach a) n.props a

  -- a match's group is reported, or it isn't since its first property isn't within it
  record Kept (a : ℕ) (r : List ℕ) : Type 0 where
    its : List Prop
    reported : (p : ℕ) → p ≤ a → FromMatch p a (node_in 0 no_parent 0 its)
    nodes : nodes_of (a ∷ r) ≡ node_in 0 no_parent 0 its ∷ nodes_of r

  record Left (a : ℕ) (r : List ℕ) : Type 0 where
    outside : ¬ Reach a (end_at s a)
    nodes : nodes_of (a ∷ r) ≡ nodes_of r

  keep_some : (q : Prop) (qs rest : List Prop) (gs : List (List Prop)) → qs ≡ q ∷ rest
      → map (node_in 0 no_parent 0) (keep (λ qs. not (is_empty qs)) (qs ∷ gs)) ≡ node_in 0 no_parent 0 qs ∷ map (node_in 0 no_parent 0) (keep (λ qs. not (is_empty qs)) gs)
  unfolding keep
  keep_some q qs rest gs e = rw e

  keep-none : (qs : List Prop) (gs : List (List Prop)) → qs ≡ [] → map (node_in 0 no_parent 0) (keep (λ qs. not (is_empty qs)) (qs ∷ gs)) ≡ map (node_in 0 no_parent 0) (keep (λ qs. not (is_empty qs)) gs)
  unfolding keep
  keep-none qs gs e = rw e

  kept_or_left : (a : ℕ) (r : List ℕ) → At a → AllFrom (a + 1) r → Kept a r ⊎ Left a r
  kept_or_left a r m h = go (is_inside s limit a) refl
    where
      limit : ℕ
      limit = limit_of r

      qs : List Prop
      qs = (group_at s limit a).props

      go : (b : Bool) → is_inside s limit a ≡ b → Kept a r ⊎ Left a r
      go true i =
          let x = group-begins s limit a (limit_inside a r h) i in
          inl (record {
            its = qs;
            reported = λ p l. record {
              behind = l;
              match = m;
              type = refl;
              rest = x.rest;
              first = x.is;
              inside = limit_reach a r h (end_at s a) (inside_true s limit a i);
              read = group-read (Reach a) limit a (limit_inside a r h) λ e. (reach_limit a r h e, limit_reach a r h e);
            };
            nodes = ap (λ gs. map (node_in 0 no_parent 0) (keep (λ qs. not (is_empty qs)) gs)) (groups_cons a r) ∙ keep_some (property_at s a) qs x.rest (groups_of s r) x.is;
          })
      go false i =
          inr (record {
            outside = λ x. no i (inside-so limit a (reach_limit a r h (end_at s a) x));
            nodes = ap (λ gs. map (node_in 0 no_parent 0) (keep (λ qs. not (is_empty qs)) gs)) (groups_cons a r)
                ∙ keep-none qs (groups_of s r) (ap (λ g. g.props) (group-none s limit a (limit_inside a r h) i));
          })

  earlier : (q p a : ℕ) (n : Node Prop) → q ≤ p → FromMatch p a n → FromMatch q a n
  earlier q p a n l x = record { behind = omega (arith, x.behind); match = x.match; type = x.type; rest = x.rest; first = x.first; inside = x.inside; read = x.read }

  abbrev pub Node-from : ℕ → Node Prop → Type 0
  Node-from p n = (a : ℕ) × FromMatch p a n

  -- every node is a match's
  nodes-from : (ms : List ℕ) (p : ℕ) → AllFrom p ms → Each (Node-from p) (nodes_of ms)
  unfolding groups_of keep
  nodes-from [] p h = tt
  nodes-from (a ∷ r) p h =
      let rest : Each (Node-from p) (nodes_of r) =
      each-then (Node-from (a + 1)) (Node-from p) (nodes_of r) (λ n x. (x.0, earlier p (a + 1) x.0 n (omega (arith, h.0)) x.1)) (nodes-from r (a + 1) h.3) in
      elim (kept_or_left a r h.1 h.3) [ inl k ↦ rw k.nodes ((a, k.reported p h.0), rest) | inr k ↦ rw k.nodes rest ]

  -- and every match whose first property is within its group has one
  pub record Node-of (p a : ℕ) (ns : List (Node Prop)) : Type 0 where
    pub at : ℕ
    pub there : at < length ns
    pub is : FromMatch p a (get_or ns at no_node)

  node_of : (ms : List ℕ) (p : ℕ) → AllFrom p ms → (a : ℕ) → p ≤ a → At a → Reach a (end_at s a) → Node-of p a (nodes_of ms)
  node_of [] p h a l m x = absurd (h a l m)
  node_of (c ∷ r) p h a l m x = elim (below_or a (c + 1)) [ inl d ↦ here-is d | inr d ↦ further (node_of r (c + 1) h.3 a d m x) ]
    where
      further : Node-of (c + 1) a (nodes_of r) → Node-of p a (nodes_of (c ∷ r))
      further y =
          let z = earlier p (c + 1) a _ (omega (arith, h.0)) y.is in
          elim (kept_or_left c r h.1 h.3) [
            | inl k ↦ rw k.nodes (record { at = suc y.at; there = omega (arith, y.there); is = z })
            | inr k ↦ rw k.nodes (record { at = y.at; there = y.there; is = z })
          ]

      here-is : a < c + 1 → Node-of p a (nodes_of (c ∷ r))
      here-is d =
          elim (below_or a c) [
            | inl b ↦ absurd (h.2 a l b m)
            | inr b ↦ let e : a ≡ c = omega arith in
                elim (kept_or_left c r h.1 h.3) [
                  | inl k ↦ rw (k.nodes, e) (record { at = 0; there = omega arith; is = k.reported p h.0 })
                  | inr k ↦ absurd (k.outside (rw e at x))
                ]
          ]

  pub scan-nodes : (p : ℕ) → Each (Node-from p) (scan_from s p)
  unfolding scan_from
  scan-nodes p = nodes-from (matches_from s p) p (matches_all p)

  pub scan-node : (p a : ℕ) → p ≤ a → At a → Reach a (end_at s a) → Node-of p a (scan_from s p)
  unfolding scan_from
  scan-node p = node_of (matches_from s p) p (matches_all p)

  -- ---- where a group's reading stopped: behind the trailer of its last property
  groups_stop : (k limit p : ℕ) → behind p (group_of k s limit p).props ≡ (group_of k s limit p).stop
  unfolding group_of property_at
  groups_stop zero limit p = refl
  groups_stop (suc k) limit p =
      either (λ (g : Group). behind p g.props ≡ g.stop) (is_inside s limit p) _ _
      (λ _. either (λ (g : Group). behind p g.props ≡ g.stop) (ends_group (trailer_at s p)) _ _ (λ _. refl) λ _. groups_stop k limit (end_at s p))
      λ _. refl

  pub group-stop : (limit p : ℕ) → behind p (group_at s limit p).props ≡ (group_at s limit p).stop
  unfolding group_at
  group-stop limit p = groups_stop (length s) limit p
