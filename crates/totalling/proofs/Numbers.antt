-- Numbers of four bytes, read and written.
use Prim.Native.Nat.{ℕ, zero, suc, ◌+◌, ◌*◌, ◌≤◌, ◌<◌}
use native.Mathlib.Numerals.{add-one}
use native.Mathlib.Omega.{arith}
use mathlib.Core.Path.{◌≡◌, refl, sym, ap, ap₂, ◌∙◌}
use mathlib.Core.List.{List, [], ◌∷◌, ◌++◌}
use lib.ListN.{length, get_or, take, length-append}
use lib.Seq.{take-suc}
use Rattle.rules.specs.Bytes.{u32}
use Rattle.rules.specs.Listing.{answer_line}
use Rattle.rules.specs.declared.Totals.{Totals}
use Rattle.rules.specs.declared.Totalled.{Totalled}
use Rattle.totalling.specs.Counted.{numbers_at, record_in, four_bytes_lem, number_bytes, record_bytes, said, most_said}

-- ---- read
pub numbers_are : (s : List ℕ) (p n : ℕ) (xs : List ℕ) → length xs ≡ n → ((k : ℕ) → k < n → get_or xs k 0 ≡ u32 s (p + 4 * k)) → xs ≡ numbers_at s p n
unfolding numbers_at
numbers_are s p zero [] e h = refl
numbers_are s p zero (x ∷ xs) e h = absurd (omega arith)
numbers_are s p (suc n) [] e h = absurd (omega arith)
numbers_are s p (suc n) (x ∷ xs) e h =
    let first : p + 4 * 0 ≡ p = omega arith in
    let rest = numbers_are s (p + 4) n xs (omega arith) (λ k l. let q : p + 4 * suc k ≡ p + 4 + 4 * k = omega arith in h (suc k) (omega arith) ∙ ap (u32 s) q) in
    ap₂ (λ y ys. y ∷ ys) (h 0 (omega arith) ∙ ap (u32 s) first) rest

pub record_is : (input : List ℕ) (t : Totals) → t.answers ≡ numbers_at input 8 6 → t.types ≡ numbers_at input 32 31 → t.marks ≡ numbers_at input 164 9
    → t.unmapped ≡ u32 input 156 → t.mapped ≡ u32 input 160 → t ≡ record_in input
unfolding record_in
record_is input t a b m u v = λ i. record { answers = a i; types = b i; unmapped = u i; mapped = v i; marks = m i }

-- ---- written
pub bytes-append : (a b : List ℕ) → number_bytes (a ++ b) ≡ number_bytes a ++ number_bytes b
unfolding number_bytes
bytes-append [] b = refl
bytes-append (n ∷ a) b = ap (λ (l : List ℕ). four_bytes_lem n ++ l) (bytes-append a b)

pub bytes_one : (a : List ℕ) (n : ℕ) → number_bytes (a ++ (n ∷ [])) ≡ number_bytes a ++ four_bytes_lem n
unfolding number_bytes
bytes_one a n = bytes-append a (n ∷ [])

pub bytes_next : (ns : List ℕ) (i : ℕ) → i < length ns → number_bytes (take i ns) ++ four_bytes_lem (get_or ns i 0) ≡ number_bytes (take (i + 1) ns)
bytes_next ns i h = sym (rw (add-one, take-suc ns i 0 h) (bytes_one (take i ns) (get_or ns i 0)))

pub bytes-many : (a : List ℕ) → length (number_bytes a) ≡ 4 * length a
unfolding number_bytes
bytes-many [] = refl
bytes-many (n ∷ a) = let e = bytes-many a in omega arith

pub record_many : (t : Totals) → length t.answers ≡ 6 → length t.types ≡ 31 → length t.marks ≡ 9 → length (record_bytes t) ≡ 192
unfolding record_bytes
record_many t a b m =
    simp length-append (omega (arith, bytes-many t.answers, bytes-many t.types, bytes-many t.marks))

pub said-short : (e : Totalled) → length (answer_line e.answer) ≤ 51 → length (record_bytes e.totals) ≡ 192 → length (said e) ≤ most_said
unfolding said
said-short e h k = simp length-append (omega arith)
