-- The short spelling of what a stream is read as: it is a spelling, and no spelling is shorter.
use Prim.Native.Nat.{ℕ, zero, suc, ◌+◌, ◌≤◌, ◌<◌}
use native.Mathlib.Omega.{arith}
use mathlib.Core.Path.{◌≡◌, refl, ap}
use mathlib.Core.Bool.{Bool, true, false, cond}
use mathlib.Core.List.{List, [], ◌∷◌, ◌++◌}
use lib.Dec.{leb, eqb}
use lib.ListN.{length, length-append}
use borrow.Author.Tests.{le-leb, lt-leb, leb-true, eq-eqb, eqb-true}
use Rattle.rules.specs.Lists.{concat}
use Rattle.rules.specs.Bytes.{Bytes, two_bytes_lem}
use Rattle.rules.specs.Tree.{Entry, plain, parent, Entries, end, more}
use Rattle.rules.specs.Access2000.{Prop}
use Rattle.rules.specs.Rewrite.{length_bytes, value_bytes, property_bytes, run_bytes, many, count_bytes, entry_bytes, entries_bytes, tree_bytes}
use Rattle.claims.specs.Ways.{Way, just, ◌then◌, in_turn, first, second, with, half}
use Rattle.claims.specs.Grammar.{Property, Item, leaf, branch, Items, one, Stream, size, property, run, count, item, items, stream, number}
use Rattle.claims.specs.Contents as read

-- ---- the short spelling
pub short_property : Property → List ℕ
short_property q = q.id ∷ value_bytes q.id q.value

pub short_run : List Property → List ℕ
short_run [] = []
short_run (q ∷ qs) = short_property q ++ short_run qs

mutual
  pub short_item : Item → List ℕ
  short_item (leaf type qs) = two_bytes_lem type ++ (short_run qs ++ (0xFD ∷ []))
  short_item (branch type qs is) = two_bytes_lem type ++ (short_run qs ++ (count_bytes (number is) ++ short_items is))

  pub short_items : Items → List ℕ
  short_items Items.none = []
  short_items (one i is) = short_item i ++ short_items is

pub short : Stream → List ℕ
short t = short_run t.own ++ (count_bytes (number t.list) ++ short_items t.list)

-- ---- it is what is written of a tree
module _ (s : List ℕ) where
  run-same : (qs : List Prop) → run_bytes s qs ≡ short_run (read.run s qs)
  unfolding concat property_bytes short_run short_property
  run-same [] = refl
  run-same (q ∷ qs) = ap (λ l. property_bytes s q ++ l) (run-same qs)

  many-same : (es : Entries Prop) → many es ≡ number (read.items s es)
  unfolding many
  many-same end = refl
  many-same (more e es) = ap (λ (n : ℕ). n + 1) (many-same es)

  mutual
    unfolding entry_bytes entries_bytes short_item short_items

    entry-same : (e : Entry Prop) → entry_bytes s e ≡ short_item (read.item s e)
    entry-same (plain t qs) = rw (run-same qs)
    entry-same (parent t qs es) = rw (run-same qs, many-same es, entries_same es)

    entries_same : (es : Entries Prop) → entries_bytes s es ≡ short_items (read.items s es)
    entries_same end = refl
    entries_same (more e es) = rw (entry-same e, entries_same es)

  pub tree-same : (x : List Prop × Entries Prop) → tree_bytes s x ≡ short (read.stream s x)
  unfolding tree_bytes short
  tree-same x = rw (run-same x.0, many-same x.1, entries_same x.1)

-- ---- bytes
unfoldable pub Small : List ℕ → Type 0
Small [] = Unit
Small (x ∷ xs) = (x < 256) × Small xs

pub small-join : (a b : List ℕ) → Small a → Small b → Small (a ++ b)
unfolding Small
small-join [] b h k = k
small-join (x ∷ a) b h k = (h.0, small-join a b h.1 k)

pub small_split : (a b : List ℕ) → Small (a ++ b) → Small a × Small b
unfolding Small
small_split [] b h = (tt, h)
small_split (x ∷ a) b h = let r = small_split a b h.1 in ((h.0, r.0), r.1)

pub small_bytes : (a : List ℕ) → Small a → Bytes a
unfolding Small
small_bytes [] h i = omega arith
small_bytes (x ∷ a) h zero = h.0
small_bytes (x ∷ a) h (suc i) = small_bytes a h.1 i

pub bytes_small : (a : List ℕ) → Bytes a → Small a
unfolding Small
bytes_small [] h = tt
bytes_small (x ∷ a) h = (h 0, bytes_small a (λ i. h (suc i)))

-- ---- b is written the same way as a, and no longer
pub record Better (W : Way) (a b : List ℕ) : Type 0 where
  pub so : W b
  pub less : length b ≤ length a
  pub small : Small a → Small b

same : {W : Way} {a : List ℕ} → W a → Better W a a
same h = record { so = h; less = omega arith; small = λ k. k }

both : {P Q : Way} {a b c d : List ℕ} → Better P a b → Better Q c d → Better (P then Q) (a ++ c) (b ++ d)
both {a = a} {b = b} {c = c} {d = d} x y = record {
  so = in_turn x.so y.so;
  less = omega (arith, length-append a c, length-append b d, x.less, y.less);
  small = λ h. let k = small_split a c h in small-join b d (x.small k.0) (y.small k.1);
}

half_same : (n : ℕ) {a : List ℕ} → half n a → Better (half n) a (two_bytes_lem n)
half_same n (in_turn just just) = same (in_turn just just)

half_better : {a : List ℕ} (n : ℕ) → half n a → Better (half n) a (two_bytes_lem n)
half_better n h = half_same n h

size_bytes : ℕ → ℕ → List ℕ
size_bytes id n = cond (leb id 0xBC) [] (length_bytes n)

value_parts : (id : ℕ) (v : List ℕ) → value_bytes id v ≡ size_bytes id (length v) ++ v
unfolding value_bytes size_bytes
value_parts id v = go (leb id 0xBC)
  where
    go : (b : Bool) → cond b v (length_bytes (length v) ++ v) ≡ cond b [] (length_bytes (length v)) ++ v
    go true = refl
    go false = refl

size_fixed : {a : List ℕ} (id n : ℕ) → id ≤ 0xBC → a ≡ [] → size id n a → Better (size id n) a (size_bytes id n)
unfolding size_bytes
size_fixed id n l e h = rw (le-leb id 0xBC l, ← e) (same h)

size-long : {a : List ℕ} (id n : ℕ) → 0xBD ≤ id → id ≤ 0xFC → half n a → Better (size id n) (0xFF ∷ a) (length_bytes n)
unfolding length_bytes size Small
size-long {a} id n g l h = go (leb n 254) refl
  where
    go : (b : Bool) → leb n 254 ≡ b → Better (size id n) (0xFF ∷ a) (cond b (n ∷ []) (0xFF ∷ two_bytes_lem n))
    go true e = record {
      so = second (second (second (second (first (with (g, l) (with (leb-true _ _ e) just))))));
      less = omega arith;
      small = λ _. (omega (arith, leb-true n 254 e), tt);
    }
    go false e =
        let x = both (same just) (half_better n h) in
        record { so = second (second (second (second (second (with (g, l) x.so))))); less = x.less; small = x.small }

size-behind : {a : List ℕ} (id n : ℕ) → 0xBD ≤ id → Better (size id n) a (length_bytes n) → Better (size id n) a (size_bytes id n)
unfolding size_bytes
size-behind id n g h = rw (lt-leb id 0xBC (omega arith)) h

size-short : (id n : ℕ) → 0xBD ≤ id → id ≤ 0xFC → n ≤ 254 → Better (size id n) (n ∷ []) (size_bytes id n)
unfolding size_bytes length_bytes size
size-short id n g l z = rw (lt-leb id 0xBC (omega arith), le-leb n 254 z) (same (second (second (second (second (first (with (g, l) (with z just))))))))

size_better : {a : List ℕ} (id n : ℕ) → size id n a → Better (size id n) a (size_bytes id n)
unfolding size
size_better id n (first (with r (with z just))) = size_fixed id n (omega arith) refl (first (with r (with z just)))
size_better id n (second (first (with r (with z just)))) = size_fixed id n (omega arith) refl (second (first (with r (with z just))))
size_better id n (second (second (first (with r (with z just))))) = size_fixed id n (omega arith) refl (second (second (first (with r (with z just)))))
size_better id n (second (second (second (first (with r (with z just)))))) = size_fixed id n (omega arith) refl (second (second (second (first (with r (with z just))))))
size_better id n (second (second (second (second (first (with r (with z just))))))) = size-short id n r.0 r.1 z
size_better id n (second (second (second (second (second (with r (in_turn just h))))))) = size-behind id n r.0 (size-long id n r.0 r.1 h)

property_better : {a : List ℕ} (q : Property) → property q a → Better (property q) a (short_property q)
unfolding property short_property
property_better q (in_turn just (in_turn k just)) = rw (value_parts q.id q.value) (both (same just) (both (size_better q.id (length q.value) k) (same just)))

run_better : {a : List ℕ} (qs : List Property) → run qs a → Better (run qs) a (short_run qs)
unfolding run short_run
run_better [] just = same just
run_better (q ∷ qs) (in_turn h k) = both (property_better q h) (run_better qs k)

count_long : {a : List ℕ} (n : ℕ) → half n a → Better (count n) (0xFF ∷ a) (count_bytes n)
unfolding count_bytes count Small
count_long {a} n h = go (eqb n 1) refl
  where
    go : (b : Bool) → eqb n 1 ≡ b → Better (count n) (0xFF ∷ a) (cond b (0xFE ∷ []) (0xFF ∷ two_bytes_lem n))
    go true e = record { so = first (with (eqb-true _ _ e) just); less = omega arith; small = λ _. (omega arith, tt) }
    go false e = let x = both (same just) (half_better n h) in record { so = second x.so; less = x.less; small = x.small }

count-one : (n : ℕ) → n ≡ 1 → Better (count n) (0xFE ∷ []) (count_bytes n)
unfolding count_bytes count
count-one n z = rw (eq-eqb n 1 z) (same (first (with z just)))

count_better : {a : List ℕ} (n : ℕ) → count n a → Better (count n) a (count_bytes n)
unfolding count
count_better n (first (with z just)) = count-one n z
count_better n (second (in_turn just h)) = count_long n h

-- ---- an item, and items
abbrev ItemBetter : Item → Type 0
ItemBetter i = (level : ℕ) (a : List ℕ) → item level i a → Better (item level i) a (short_item i)

abbrev ItemsBetter : Items → Type 0
ItemsBetter is = (level : ℕ) (a : List ℕ) → items level is a → Better (items level is) a (short_items is)

leaf_better : (t : ℕ) (qs : List Property) → ItemBetter (leaf t qs)
unfolding item short_item
leaf_better t qs level _ (in_turn h (in_turn u just)) = both (half_better t h) (both (run_better qs u) (same just))

branch_better : (t : ℕ) (qs : List Property) (is : Items) → ItemsBetter is → ItemBetter (branch t qs is)
unfolding item short_item
branch_better t qs is r level _ (in_turn h (in_turn u (in_turn f g))) =
    both (half_better t h) (both (run_better qs u) (both (count_better (number is) f) (r (level + 1) _ g)))

none_better : ItemsBetter Items.none
unfolding items short_items
none_better level _ just = same just

one_better : (i : Item) (is : Items) → ItemBetter i → ItemsBetter is → ItemsBetter (one i is)
unfolding items short_items
one_better i is r r' level _ (with f (in_turn g h)) =
    let x = both (r level _ g) (r' level _ h) in
    record { so = with f x.so; less = x.less; small = x.small }

mutual
  item_better : (i : Item) → ItemBetter i
  item_better (leaf t qs) = leaf_better t qs
  item_better (branch t qs is) = branch_better t qs is (items_better is)

  items_better : (is : Items) → ItemsBetter is
  items_better Items.none = none_better
  items_better (one i is) = one_better i is (item_better i) (items_better is)

pub stream_better : {a : List ℕ} (t : Stream) → stream t a → Better (stream t) a (short t)
unfolding stream short
stream_better t (in_turn u (in_turn f g)) = both (run_better t.own u) (both (count_better (number t.list) f) (items_better t.list 0 _ g))

-- a count has a byte
pub short_some : (t : Stream) → 0 < length (short t)
unfolding short count_bytes
short_some t =
    let n = length-append (short_run t.own) (count_bytes (number t.list) ++ short_items t.list) in
    let m = length-append (count_bytes (number t.list)) (short_items t.list) in
    omega (arith, count_some (number t.list))
  where
    count_some : (n : ℕ) → 0 < length (count_bytes n)
    count_some n = go (eqb n 1)
      where
        go : (b : Bool) → 0 < length (cond b (0xFE ∷ []) (0xFF ∷ two_bytes_lem n))
        go true = omega arith
        go false = omega arith
