-- UTF-8 of well-formed UTF-16: every character is one that UTF-8 has, and how its bytes stand in a field.
use Prim.Native.Nat.{ℕ, suc, ◌+◌, ◌*◌, ◌<◌, ◌≤◌, ◌/◌, ◌%◌}
use native.Mathlib.Omega.{arith}
use mathlib.Core.Path.{◌≡◌, refl, sym, ap, ◌∙◌}
use mathlib.Core.Bool.{Bool, true, false, cond, ◌&&◌}
use mathlib.Core.List.{List, [], ◌∷◌, ◌++◌, map}
use mathlib.Core.Logic.{◌⊎◌, inl, inr}
use lib.Dec.{ltb, leb, eqb}
use borrow.Author.Tests
use borrow.Author.Tests.{ltb-true, ltb-false, leb-true, leb-false, lt-ltb, le-ltb, ne_eqb}
use Rattle.rules.specs.Lists.{concat, all}
use Rattle.rules.specs.Bytes.{Bytes}
use Rattle.rules.specs.Utf16.{is_high, is_low, same, paired, is_utf16_lem}
use Rattle.rules.specs.Scalars.{scalar, scalars_from, scalars}
use Rattle.rules.specs.Utf8.{utf8_of}
use Rattle.rules.specs.Csv.{quote, is_data, doubled, quotes_in}
use Rattle.rules.proofs.ListLaws.{and_l, and_r}
use Rattle.csvlaws.proofs.CsvPlain.{Plain, plain-one, plain-none, plain-doubled, plain_quotes, above_data}
use Rattle.csvlaws.proofs.CsvLaws.{doubled-append, all_append, quotes_append}

-- a character: any number to 10FFFF but the halves of pairs
abbrev pub Scalar : ℕ → Type 0
Scalar c = (c < 0xD800) ⊎ ((0xE000 ≤ c) × (c < 0x110000))

abbrev pub Scalars : List ℕ → Type 0
Scalars [] = Unit
Scalars (c ∷ cs) = Scalar c × Scalars cs

-- ---- halves of pairs
pub high-then : (u : ℕ) → is_high u ≡ true → (0xD800 ≤ u) × (u < 0xDC00)
high-then u e = (leb-true _ _ (and_l (leb 0xD800 u) (ltb u 0xDC00) e), ltb-true _ _ (and_r (leb 0xD800 u) (ltb u 0xDC00) e))

pub low-then : (u : ℕ) → is_low u ≡ true → (0xDC00 ≤ u) × (u < 0xE000)
low-then u e = (leb-true _ _ (and_l (leb 0xDC00 u) (ltb u 0xE000) e), ltb-true _ _ (and_r (leb 0xDC00 u) (ltb u 0xE000) e))

-- neither half
outside : (u a b : ℕ) → (leb a u && ltb u b) ≡ false → (u < a) ⊎ (b ≤ u)
outside u a b e = go (leb a u) (ltb u b) refl refl e
  where
    go : (x y : Bool) → leb a u ≡ x → ltb u b ≡ y → (x && y) ≡ false → (u < a) ⊎ (b ≤ u)
    go false y p q e = inl (leb-false _ _ p)
    go true false p q e = inr (ltb-false _ _ q)
    go true true p q e = absurd (let z : ◌≡◌ {A = ℕ} 0 1 = cc in omega arith)

pub neither : (u : ℕ) → u < 65536 → is_high u ≡ false → is_low u ≡ false → Scalar u
neither u l h k = go (outside u 0xD800 0xDC00 h) (outside u 0xDC00 0xE000 k)
  where
    go : (u < 0xD800) ⊎ (0xDC00 ≤ u) → (u < 0xDC00) ⊎ (0xE000 ≤ u) → Scalar u
    go (inl a) y = inl a
    go (inr a) (inl b) = absurd (omega arith)
    go (inr a) (inr b) = inr (b, omega arith)

-- ---- the characters of well-formed UTF-16
-- the first half that came before, where one is pending
Pending : Bool → ℕ → Type 0
Pending true high = (0xD800 ≤ high) × (high < 0xDC00)
Pending false high = high ≡ 0

pair-scalar : (high u : ℕ) → 0xD800 ≤ high → high < 0xDC00 → 0xDC00 ≤ u → u < 0xE000 → Scalar (scalar high u)
unfolding scalar
pair-scalar high u a b c d = rw (ne_eqb high 0 (λ e. omega arith)) (inr (omega arith, omega arith))

alone-scalar : (u : ℕ) → Scalar u → Scalar (scalar 0 u)
unfolding scalar
alone-scalar u h = h

-- one unit, and what follows it
unit_scalars : (pending : Bool) (high u : ℕ) (s : List ℕ) → Pending pending high → u < 65536 → same pending (is_low u) ≡ true
    → (t : Bool) → is_high u ≡ t → (Pending t (cond t u 0) → Scalars (scalars_from (cond t u 0) s))
    → Scalars (cond t (scalars_from u s) (scalar high u ∷ scalars_from 0 s))
unfolding Pending
unit_scalars true high u s p l e true h k = absurd (omega (arith, high-then u h, low-then u e))
unit_scalars true high u s p l e false h k = (pair-scalar high u p.0 p.1 (low-then u e).0 (low-then u e).1, k refl)
unit_scalars false high u s p l e true h k = k (high-then u h)
unit_scalars false high u s p l e false h k = (rw p (alone-scalar u (neither u l h (Tests.not-true (is_low u) e))), k refl)

scalars-from : (s : List ℕ) (pending : Bool) (high : ℕ) → Bytes s → Pending pending high → paired pending s ≡ true → Scalars (scalars_from high s)
unfolding paired scalars_from
scalars-from [] pending high b p e = tt
scalars-from (x ∷ []) pending high b p e = tt
scalars-from (x ∷ y ∷ s) pending high b p e =
    let u = x + 256 * y in
    let l : u < 65536 = omega (arith, b 0, b 1) in
    unit_scalars pending high u s p l (and_l (same pending (is_low u)) (paired (is_high u) s) e) (is_high u) refl
    (λ q. scalars-from s (is_high u) (cond (is_high u) u 0) (λ i. b (suc (suc i))) q (and_r (same pending (is_low u)) (paired (is_high u) s) e))

pub scalars-are : (s : List ℕ) → Bytes s → is_utf16_lem s ≡ true → Scalars (scalars s)
unfolding is_utf16_lem scalars Pending
scalars-are s b e = scalars-from s false 0 b refl e

-- ---- a character's bytes
module _ (c : ℕ) where
  pub one_byte : c < 0x80 → utf8_of c ≡ c ∷ []
  unfolding utf8_of
  one_byte h = rw (lt-ltb c 0x80 h)

  pub two_bytes : 0x80 ≤ c → c < 0x800 → utf8_of c ≡ (0xC0 + c / 64) ∷ (0x80 + c % 64) ∷ []
  unfolding utf8_of
  two_bytes h k = rw (le-ltb c 0x80 h, lt-ltb c 0x800 k)

  pub three-bytes : 0x800 ≤ c → c < 0x10000 → utf8_of c ≡ (0xE0 + c / 4096) ∷ (0x80 + c / 64 % 64) ∷ (0x80 + c % 64) ∷ []
  unfolding utf8_of
  three-bytes h k = rw (le-ltb c 0x80 (omega arith), le-ltb c 0x800 h, lt-ltb c 0x10000 k)

  pub four_bytes : 0x10000 ≤ c → utf8_of c ≡ (0xF0 + c / 262144) ∷ (0x80 + c / 4096 % 64) ∷ (0x80 + c / 64 % 64) ∷ (0x80 + c % 64) ∷ []
  unfolding utf8_of
  four_bytes h = rw (le-ltb c 0x80 (omega arith), le-ltb c 0x800 (omega arith), le-ltb c 0x10000 h)

  -- which of them it is
  pub by_length : (P : List ℕ → Type 0) → (c < 0x80 → P (utf8_of c)) → (0x80 ≤ c → c < 0x800 → P (utf8_of c))
      → (0x800 ≤ c → c < 0x10000 → P (utf8_of c)) → (0x10000 ≤ c → P (utf8_of c)) → P (utf8_of c)
  by_length P w x y z = go (ltb c 0x80) (ltb c 0x800) (ltb c 0x10000) refl refl refl
    where
      go : (i j k : Bool) → ltb c 0x80 ≡ i → ltb c 0x800 ≡ j → ltb c 0x10000 ≡ k → P (utf8_of c)
      go true j k p q r = w (ltb-true _ _ p)
      go false true k p q r = x (ltb-false _ _ p) (ltb-true _ _ q)
      go false false true p q r = y (ltb-false _ _ q) (ltb-true _ _ r)
      go false false false p q r = z (ltb-false _ _ r)

-- ---- in a field
-- how many quotes, and whether it must be quoted
one_data : (c : ℕ) → c < 0x80 → all is_data (utf8_of c) ≡ is_data c
unfolding all
one_data c h = rw (one_byte c h) (go (is_data c))
  where
    go : (t : Bool) → (t && true) ≡ t
    go true = refl
    go false = refl

big : (b : ℕ) (f : List ℕ) → 0x80 ≤ b → Plain f → Plain (b ∷ f)
big b f h k = plain-one b f (above_data b (omega arith)) k

-- a character of more than one byte needs no quotes
pub above-plain : (c : ℕ) → 0x80 ≤ c → Plain (utf8_of c)
above-plain c h =
    by_length c Plain (λ l. absurd (omega arith))
    (λ l m. rw (two_bytes c l m) (big _ _ (omega arith) (big _ _ (omega arith) plain-none)))
    (λ l m. rw (three-bytes c l m) (big _ _ (omega arith) (big _ _ (omega arith) (big _ _ (omega arith) plain-none))))
    (λ l. rw (four_bytes c l) (big _ _ (omega arith) (big _ _ (omega arith) (big _ _ (omega arith) (big _ _ (omega arith) plain-none)))))

one-doubled : (c : ℕ) → c < 0x80 → doubled (utf8_of c) ≡ cond (eqb c quote) (quote ∷ quote ∷ []) (utf8_of c)
unfolding doubled
one-doubled c h = rw (one_byte c h)

many-doubled : (c : ℕ) → 0x80 ≤ c → doubled (utf8_of c) ≡ cond (eqb c quote) (quote ∷ quote ∷ []) (utf8_of c)
many-doubled c h = rw (ne_eqb c quote (λ e. omega arith)) (plain-doubled (utf8_of c) (above-plain c h))

-- the quote alone is doubled
pub utf8-doubled : (c : ℕ) → doubled (utf8_of c) ≡ cond (eqb c quote) (quote ∷ quote ∷ []) (utf8_of c)
utf8-doubled c = go (ltb c 0x80) refl
  where
    go : (t : Bool) → ltb c 0x80 ≡ t → doubled (utf8_of c) ≡ cond (eqb c quote) (quote ∷ quote ∷ []) (utf8_of c)
    go true e = one-doubled c (ltb-true _ _ e)
    go false e = many-doubled c (ltb-false _ _ e)

-- the doubled text of characters, one by one
pub utf8-each-doubled : (cs : List ℕ) → doubled (concat (map utf8_of cs)) ≡ concat (map (λ c. doubled (utf8_of c)) cs)
unfolding concat doubled
utf8-each-doubled [] = refl
utf8-each-doubled (c ∷ cs) = doubled-append (utf8_of c) (concat (map utf8_of cs)) ∙ ap (λ l. doubled (utf8_of c) ++ l) (utf8-each-doubled cs)

many_data : (c : ℕ) → 0x80 ≤ c → all is_data (utf8_of c) ≡ is_data c
many_data c h = above-plain c h ∙ sym (above_data c (omega arith))

-- whether a character must be quoted
pub utf8_data : (c : ℕ) → all is_data (utf8_of c) ≡ is_data c
utf8_data c = go (ltb c 0x80) refl
  where
    go : (t : Bool) → ltb c 0x80 ≡ t → all is_data (utf8_of c) ≡ is_data c
    go true e = one_data c (ltb-true _ _ e)
    go false e = many_data c (ltb-false _ _ e)

-- and whether some character of a text must
pub utf8-each_data : (cs : List ℕ) → all is_data (concat (map utf8_of cs)) ≡ all is_data cs
unfolding concat all
utf8-each_data [] = refl
utf8-each_data (c ∷ cs) = all_append is_data (utf8_of c) (concat (map utf8_of cs)) ∙ rw (utf8_data c, utf8-each_data cs)

one_quotes : (c : ℕ) → c < 0x80 → quotes_in (utf8_of c) ≡ cond (eqb c quote) 1 0
unfolding quotes_in
one_quotes c h = rw (one_byte c h) (omega arith)

many_quotes : (c : ℕ) → 0x80 ≤ c → quotes_in (utf8_of c) ≡ cond (eqb c quote) 1 0
many_quotes c h = rw (ne_eqb c quote (λ e. omega arith)) (plain_quotes (utf8_of c) (above-plain c h))

pub utf8_quotes : (c : ℕ) → quotes_in (utf8_of c) ≡ cond (eqb c quote) 1 0
utf8_quotes c = go (ltb c 0x80) refl
  where
    go : (t : Bool) → ltb c 0x80 ≡ t → quotes_in (utf8_of c) ≡ cond (eqb c quote) 1 0
    go true e = one_quotes c (ltb-true _ _ e)
    go false e = many_quotes c (ltb-false _ _ e)

-- so quotes are counted by characters
pub utf8-each_quotes : (cs : List ℕ) → quotes_in (concat (map utf8_of cs)) ≡ quotes_in cs
unfolding concat quotes_in
utf8-each_quotes [] = refl
utf8-each_quotes (c ∷ cs) = quotes_append (utf8_of c) (concat (map utf8_of cs)) ∙ rw (utf8_quotes c, utf8-each_quotes cs)
