-- Streams that meet the bounds of wish 14 exactly.
use Prim.Native.Nat.{ℕ, zero, suc, ◌+◌, ◌*◌, ◌≤◌}
use native.Mathlib.Omega.{arith}
use mathlib.Core.Path.{◌≡◌, refl, ap, ◌∙◌}
use mathlib.Core.Bool.{true}
use mathlib.Core.List.{List, [], ◌∷◌, ◌++◌, append-nil}
use mathlib.Core.Option.{Option, none, some}
use lib.ListN.{length, replicate, length-append, length-replicate}
use borrow.Author.Tests.{lt-ltb, le-ltb, eq-eqb}
use Rattle.rules.specs.Lists.{◌>>=◌}
use Rattle.rules.specs.Answer.{answer, longest}
use Rattle.rules.specs.CodeTable.{layout, well_formed_lem}
use Rattle.rules.specs.Rows.{control_width, property_width, room}
use Rattle.rules.specs.Tree.{Entries}
use Rattle.rules.specs.Access2000.{Prop, stream_of}
use Rattle.rules.specs.Reading.{properties}
use Rattle.rules.specs.Read2000.{read2000}
use Rattle.rules.specs.Blob.{is2000, counted, read_by, reading_of, answer_of, fit, exit}
use Rattle.rules.proofs.Open.{rules_open}
use Rattle.rules.proofs.ListLaws.{none_some}
use Rattle.claims.specs.Ways.{just, in_turn, first, with}
use Rattle.claims.specs.Grammar.{Property, Item, leaf, branch, Items, one, Stream, size, property, run, count, item, items, stream, ◌spells◌}
use Rattle.claims.specs.Shown.{items_in1, items_in, properties_in1, properties_in, shown}
use Rattle.claims.specs.Contents as contents
use Rattle.claims.specs.Rooms.{links, tight, Tight, LaterTight}
use Rattle.claims.proofs.Fits.{answer-is}
use Rattle.claims.proofs.Demand2.{complete, counts-are}

-- ---- what such a stream spells
-- an item that holds n more, each in the list of the one before
nest : ℕ → Item
nest zero = leaf 0x98 []
nest (suc n) = branch 0x98 [] (one (nest n) Items.none)

flag : Property
flag = record { id = 0; value = [] }

chain : ℕ → ℕ → Stream
chain n P = record { own = replicate P flag; list = one (nest n) Items.none }

alone : (n level : ℕ) → level ≤ 255 → item level (nest n) (0x98 ∷ 0 ∷ links n) → items level (one (nest n) Items.none) (0x98 ∷ 0 ∷ links n)
unfolding items
alone n level l h =
    let k : items level (one (nest n) Items.none) ((0x98 ∷ 0 ∷ links n) ++ []) = with l (in_turn h just) in
    rw (append-nil (links n)) at k

nest_spelled : (n level : ℕ) → level + n ≤ 255 → item level (nest n) (0x98 ∷ 0 ∷ links n)
unfolding item run count nest
nest_spelled zero level l = in_turn (in_turn just just) (in_turn just just)
nest_spelled (suc n) level l =
    let r = alone n (level + 1) (omega arith) (nest_spelled n (level + 1) (omega arith)) in
    in_turn (in_turn just just) (in_turn just (in_turn (first (with refl just)) r))

flags_spelled : (P : ℕ) → run (replicate P flag) (replicate P 0)
unfolding run property size flag
flags_spelled zero = just
flags_spelled (suc P) = in_turn (in_turn just (in_turn (first (with (omega arith, omega arith) (with refl just))) just)) (flags_spelled P)

chain_spelled : (n P : ℕ) → n ≤ 255 → (replicate P 0 ++ links (suc n)) spells chain n P
unfolding stream count chain
chain_spelled n P l = in_turn (flags_spelled P) (in_turn (first (with refl just)) (alone n 0 (omega arith) (nest_spelled n 0 (omega arith))))

-- ---- how many items and properties
nest_many : (n : ℕ) → (items_in1 (nest n) ≡ suc n) × (properties_in1 (nest n) ≡ 0)
unfolding nest
nest_many zero = (refl, refl)
nest_many (suc n) = let h = nest_many n in (omega arith, omega arith)

nest_shown : (n : ℕ) → shown (one (nest n) Items.none) ≡ one (nest n) Items.none
unfolding shown nest
nest_shown zero = refl
nest_shown (suc n) = refl

links-long : (n : ℕ) → length (links n) ≡ 3 * n + 1
links-long zero = refl
links-long (suc n) = omega (arith, links-long n)

module _ (t : List ℕ) (formed : well_formed_lem t ≡ true) (n P : ℕ) (l : n ≤ 255) (not_long : 3 * suc n + P + 11 ≤ longest) where
  abbrev s : List ℕ
  s = tight (layout t) (suc n) P

  tight-long : 3 * suc n + P + 11 ≡ length s
  tight-long = omega (arith, links-long (suc n), length-append (replicate P 0) (links (suc n)), length-replicate {A = ℕ} P 0)

  tight_2000 : is2000 t s ≡ true
  unfolding is2000
  tight_2000 = rw (lt-ltb 0 (length s) (omega (arith, tight-long)), eq-eqb (layout t) (layout t) refl)

  -- what is counted of it
  tight-counted : (x : List Prop × Entries Prop) → contents.stream s x ≡ chain n P → counted 0 (read2000 t s x) ≡ answer 0 (suc n) P P
  unfolding chain
  tight-counted x e =
      let c = counts-are 0 t s x in
      let h = nest_many n in
      let k : length (contents.stream s x).own ≡ P = ap (λ u. length u.own) e ∙ length-replicate P flag in
      let j : shown (contents.stream s x).list ≡ one (nest n) Items.none = ap (λ u. shown u.list) e ∙ nest_shown n in
      let i₀ : length (read2000 t s x).controls ≡ suc n = c.0 ∙ ap items_in j ∙ omega arith in
      let i₁ : length (properties (read2000 t s x)) ≡ P = c.1 ∙ omega (arith, ap properties_in j) in
      let i₂ : length (read2000 t s x).own ≡ P = c.2 ∙ k in
      rw (i₀, i₁, i₂)

  tight-answer : (cs ps : List ℕ) → suc n ≤ room control_width cs → P ≤ room property_width ps → (exit t s cs ps).answer ≡ answer 0 (suc n) P P
  unfolding reading_of
  tight-answer cs ps h h' = answer-is t s cs ps formed (omega (arith, tight-long)) ∙ rw tight_2000 (go (stream_of s) (complete s (chain n P) (chain_spelled n P l)))
    where
      go : (o : Option (List Prop × Entries Prop)) → (o >>= λ x. some (contents.stream s x)) ≡ some (chain n P)
          → answer_of (fit (room control_width cs) (room property_width ps) (read_by t s o)) ≡ answer 0 (suc n) P P
      go none e = absurd (none_some e)
      go (some x) e =
          let g : contents.stream s x ≡ chain n P = cc in
          let k = tight-counted x g in
          let i : length (read2000 t s x).controls ≡ suc n = ap (λ a. a.first) k in
          let j : length (properties (read2000 t s x)) ≡ P = ap (λ a. a.second) k in
          rw (le-ltb (room control_width cs) (length (read2000 t s x).controls) (omega arith), le-ltb (room property_width ps) (length (properties (read2000 t s x))) (omega arith)) k

pub tight-met : (t : List ℕ) → well_formed_lem t ≡ true → (C P : ℕ) → 1 ≤ C → C ≤ 256 → 3 * C + P + 11 ≤ longest → Tight t C P
tight-met t formed zero P h k l = absurd (omega arith)
tight-met t formed (suc n) P h k l = record { read = tight-answer t formed n P (omega arith) l; meets = tight-long t formed n P (omega arith) l }

-- ---- the later layout
pub later-tight : LaterTight
unfolding rules_open
later-tight = record { tree = refl; tree-meets = refl; scan = refl; scan-meets = refl }
