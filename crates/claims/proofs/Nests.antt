-- Rows in output order, by their levels and parents alone: what the tree that they are of makes of them.
use Prim.Native.Nat.{ℕ, suc, ◌+◌, ◌≤◌, ◌<◌}
use native.Mathlib.Omega.{arith}
use mathlib.Core.Path.{◌≡◌, refl, ap, ◌∙◌}
use mathlib.Core.List.{List, [], ◌∷◌, ◌++◌}
use mathlib.Core.Logic.{inl, inr}
use lib.ListN.{length, get_or, length-append}
use Rattle.rules.specs.Tree.{Entry, plain, parent, Entries, end, more, Node, no_parent, preorder1, preorder}
use Rattle.claims.proofs.Amounts.{entries_in1, entries_in, order_many1}
use Rattle.claims.proofs.Scan.{below_or}

-- how many rows the list of each entry takes, in output order
abbrev mutual
  pub sizes1 : {P : Type 0} → Entry P → List ℕ
  sizes1 (plain t qs) = 0 ∷ []
  sizes1 (parent t qs es) = entries_in es ∷ sizes es

  pub sizes : {P : Type 0} → Entries P → List ℕ
  sizes end = []
  sizes (more e es) = sizes1 e ++ sizes es

mutual
  sizes_many1 : {P : Type 0} (e : Entry P) → length (sizes1 e) ≡ entries_in1 e
  sizes_many1 (plain t qs) = refl
  sizes_many1 (parent t qs es) = ap suc (sizes-many es)

  pub sizes-many : {P : Type 0} (es : Entries P) → length (sizes es) ≡ entries_in es
  sizes-many end = refl
  sizes-many (more e es) = length-append (sizes1 e) (sizes es) ∙ omega (arith, sizes_many1 e, sizes-many es)

some_entry : {P : Type 0} (e : Entry P) → 0 < entries_in1 e
some_entry (plain t qs) = omega arith
some_entry (parent t qs es) = omega arith

-- ---- a list, told one by one from n on
module _ {A : Type 0} (at : ℕ → ℕ) (of : A → ℕ) where
  abbrev pub Told : ℕ → List A → Type 0
  Told n [] = Unit
  Told n (x ∷ xs) = (at n ≡ of x) × Told (suc n) xs

  told-append : (n : ℕ) (xs ys : List A) → Told n (xs ++ ys) → Told n xs × Told (n + length xs) ys
  told-append n [] ys h = let e : n + 0 ≡ n = omega arith in (tt, rw e h)
  told-append n (x ∷ xs) ys h =
      let e : n + suc (length xs) ≡ suc n + length xs = omega arith in
      let r = told-append (suc n) xs ys h.1 in
      ((h.0, r.0), rw e r.1)

  told-by : (n : ℕ) (xs : List A) (d : A) → ((k : ℕ) → k < length xs → at (n + k) ≡ of (get_or xs k d)) → Told n xs
  told-by n [] d h = tt
  told-by n (x ∷ xs) d h =
      let e : n + 0 ≡ n = omega arith in
      (rw e at (h 0 (omega arith)), told-by (suc n) xs d λ k l. let f : n + suc k ≡ suc n + k = omega arith in rw f at (h (suc k) (omega arith)))

  pub told-all : (xs : List A) (d : A) → ((k : ℕ) → k < length xs → at k ≡ of (get_or xs k d)) → Told 0 xs
  told-all xs d h = told-by 0 xs d λ k l. let e : 0 + k ≡ k = omega arith in rw e (h k l)

abbrev pub level_of : {P : Type 0} → Node P → ℕ
level_of n = n.level

abbrev pub parent_of : {P : Type 0} → Node P → ℕ
parent_of n = n.parent

abbrev pub itself : ℕ → ℕ
itself n = n

-- ---- rows with levels f, parents g, and lists of h rows
module _ (f g h : ℕ → ℕ) where
  -- at n and after it stand the rows of entries
  abbrev mutual
    Stand1 : {P : Type 0} → ℕ → ℕ → ℕ → Entry P → Type 0
    Stand1 level up n (plain t qs) = (f n ≡ level) × (g n ≡ up) × (h n ≡ 0)
    Stand1 level up n (parent t qs es) = (f n ≡ level) × (g n ≡ up) × (h n ≡ entries_in es) × Stand (suc level) n (suc n) es

    pub Stand : {P : Type 0} → ℕ → ℕ → ℕ → Entries P → Type 0
    Stand level up n end = Unit
    Stand level up n (more e es) = Stand1 level up n e × Stand level up (n + entries_in1 e) es

  module _ {P : Type 0} where
    mutual
      unfolding preorder1 preorder

      stands1 : (level up n : ℕ) (e : Entry P) → Told f level_of n (preorder1 level up n e) → Told g parent_of n (preorder1 level up n e) → Told h itself n (sizes1 e) → Stand1 level up n e
      stands1 level up n (plain t qs) a b c = (a.0, b.0, c.0)
      stands1 level up n (parent t qs es) a b c = (a.0, b.0, c.0, stands (suc level) n (suc n) es a.1 b.1 c.1)

      pub stands : (level up n : ℕ) (es : Entries P) → Told f level_of n (preorder level up n es) → Told g parent_of n (preorder level up n es) → Told h itself n (sizes es) → Stand level up n es
      stands level up n end a b c = tt
      stands level up n (more e es) a b c =
          let these = preorder1 level up n e in
          let rest = preorder level up (n + length these) es in
          let m : length these ≡ entries_in1 e = (order_many1 level up n e).0 in
          let a' = told-append f level_of n these rest a in
          let b' = told-append g parent_of n these rest b in
          let c' = told-append h itself n (sizes1 e) (sizes es) c in
          (stands1 level up n e a'.0 b'.0 c'.0, stands level up (n + entries_in1 e) es (rw m at a'.1) (rw m at b'.1) (rw (sizes_many1 e) at c'.1))

  -- ---- what is so of the rows. N rows are there
  -- `up` is the row above those at this level, from k on
  pub record Up (k level up : ℕ) : Type 0 where
    pub none : level ≡ 0 → up ≡ no_parent
    pub before : 0 < level → up < k
    pub one_less : 0 < level → f up + 1 ≡ level
    pub between : 0 < level → (j : ℕ) → up < j → j < k → level ≤ f j

  -- row k may have this level, by the row before it
  pub record Next (k level : ℕ) : Type 0 where
    pub first : k ≡ 0 → level ≡ 0
    pub one_deeper : (j : ℕ) → j + 1 ≡ k → level ≤ f j + 1

  pub record Row (N k : ℕ) : Type 0 where
    pub next : Next k (f k)
    pub up : Up k (f k) (g k)
    pub inside : k + h k < N
    pub higher : (j : ℕ) → k < j → j ≤ k + h k → f k < f j
    pub over : k + h k + 1 < N → f (k + h k + 1) ≤ f k

  -- the rows from n up to m are so, and at this level or a higher one
  pub record Span (N level n m : ℕ) : Type 0 where
    pub each : (k : ℕ) → n ≤ k → k < m → Row N k
    pub high : (k : ℕ) → n ≤ k → k < m → level ≤ f k

  -- from m on, if there is a row, its level is no higher
  record After (N level m : ℕ) : Type 0 where
    within : m ≤ N
    lower : m < N → f m ≤ level

  join : (N level n m e : ℕ) → Span N level n m → Span N level m e → Span N level n e
  join N level n m e a b = record {
    each = λ k l l'. elim (below_or k m) [ inl d ↦ a.each k l d | inr d ↦ b.each k d l' ];
    high = λ k l l'. elim (below_or k m) [ inl d ↦ a.high k l d | inr d ↦ b.high k d l' ];
  }

  up_at : (level up n m : ℕ) → n ≤ m → ((k : ℕ) → n ≤ k → k < m → level ≤ f k) → Up n level up → Up m level up
  up_at level up n m l high u = record {
    none = u.none;
    before = λ p. omega (arith, u.before p);
    one_less = u.one_less;
    between = λ p j a b. elim (below_or j n) [ inl d ↦ u.between p j a d | inr d ↦ high j d b ];
  }

  -- a row by itself, before the rows of its list
  row_span : (N level up n : ℕ) → f n ≡ level → g n ≡ up → Up n level up → Next n level → After N level (n + h n + 1) → ((j : ℕ) → n < j → j ≤ n + h n → level < f j) → Span N level n (suc n)
  row_span N level up n a b u x w high =
      let row : Row N n = record {
        next = rw a x;
        up = rw (a, b) u;
        inside = omega (arith, w.within);
        higher = λ j l l'. omega (arith, high j l l');
        over = λ l. omega (arith, w.lower l);
      } in
      record {
        each = λ k l l'. let e : n ≡ k = omega arith in rw e at row;
        high = λ k l l'. let e : n ≡ k = omega arith in let z : level ≤ f n = omega arith in rw e at z;
      }

  -- where entries begin or end: the first has their level, and what comes after them a lower one
  head-after : {P : Type 0} (N level up n : ℕ) (es : Entries P) → Stand level up n es → n + entries_in es ≤ N → (n + entries_in es < N → f (n + entries_in es) < level) → After N level n
  head-after N level up n end s l w = record { within = omega arith; lower = λ b. let e : n + 0 ≡ n = omega arith in let z : f n < level = rw e at (w (omega arith)) in omega arith }
  head-after N level up n (more (plain t qs) es) s l w = record { within = omega arith; lower = λ b. omega (arith, s.0.0) }
  head-after N level up n (more (parent t qs is) es) s l w = record { within = omega arith; lower = λ b. omega (arith, s.0.0) }

  mutual
    spans1 : {P : Type 0} (N level up n : ℕ) (e : Entry P) → Stand1 level up n e → Up n level up → Next n level → After N level (n + entries_in1 e) → Span N level n (n + entries_in1 e)
    spans1 N level up n (plain t qs) s u x w =
        let e : n + h n + 1 ≡ n + 1 = omega (arith, s.2) in
        let e' : suc n ≡ n + 1 = omega arith in
        rw e' at (row_span N level up n s.0 s.1 u x (rw e w) λ j l l'. absurd (omega (arith, s.2)))
    spans1 N level up n (parent t qs es) s u x w =
        let m = entries_in es in
        let e : n + h n + 1 ≡ n + suc m = omega (arith, s.2) in
        let e' : suc n + m ≡ n + suc m = omega arith in
        let rest : Span N (suc level) (suc n) (suc n + m) =
        spans N (suc level) n (suc n) es s.3
        (record { none = λ z. absurd (omega arith); before = λ _. omega arith; one_less = λ _. omega (arith, s.0); between = λ _ j l l'. absurd (omega arith) })
        (record { first = λ z. absurd (omega arith); one_deeper = λ j z. let y : n ≡ j = omega arith in let y' : suc level ≤ f n + 1 = omega (arith, s.0) in rw y at y' })
        (omega (arith, w.within)) λ b. rw e' (omega (arith, w.lower (omega arith))) in
        rw e' at (join N level n (suc n) (suc n + m)
        (row_span N level up n s.0 s.1 u x (rw e w) λ j l l'. omega (arith, rest.high j (omega arith) (omega (arith, s.2))))
        (record { each = rest.each; high = λ k l l'. omega (arith, rest.high k l l') }))

    pub spans : {P : Type 0} (N level up n : ℕ) (es : Entries P) → Stand level up n es → Up n level up → Next n level
        → n + entries_in es ≤ N → (n + entries_in es < N → f (n + entries_in es) < level) → Span N level n (n + entries_in es)
    spans N level up n end s u x l w = record { each = λ k b b'. absurd (omega arith); high = λ k b b'. absurd (omega arith) }
    spans N level up n (more e es) s u x l w =
        let m = n + entries_in1 e in
        let z : n + (entries_in1 e + entries_in es) ≡ m + entries_in es = omega arith in
        let some : 0 < entries_in1 e = some_entry e in
        let l' : m + entries_in es ≤ N = omega arith in
        let w' : m + entries_in es < N → f (m + entries_in es) < level = rw z at w in
        let a = spans1 N level up n e s.0 u x (head-after N level up m es s.1 l' w') in
        let x' : Next m level = record { first = λ b. absurd (omega arith); one_deeper = λ j b. omega (arith, a.high j (omega arith) (omega arith)) } in
        rw z (join N level n m (m + entries_in es) a (spans N level up m es s.1 (up_at level up n m (omega arith) a.high u) x' l' w'))
