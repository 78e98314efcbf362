-- How long a listing can be.
use mathlib.Core.Path.{◌≡◌, refl}
use mathlib.Core.Bool.{Bool, true, false, cond, not}
use mathlib.Core.List.{List, [], ◌∷◌, ◌++◌, map}
use Prim.Native.Nat.{ℕ, zero, suc, ◌+◌, ◌*◌, ◌-◌, ◌/◌, ◌%◌, ◌≤◌, min}
use native.Mathlib.Omega.{arith}
use borrow.Author.Tests.{leb-true, eqb-true}
use lib.Dec.{ltb, leb, eqb}
use lib.ListN.{length, drop, length-append, length-take}
use Rattle.rules.specs.Lists.{keep}
use Rattle.rules.specs.Bytes.{Bytes, u16, u32, part}
use Rattle.rules.specs.Answer.{answer, refusal, too_short_lem, other_magic, too_many_entries, too_long_lem, more_controls, longest}
use Rattle.rules.specs.Lists.{text}
use Rattle.rules.specs.Digits.{decimal, hex}
use Rattle.rules.specs.NameTables.{control_type_names}
use Rattle.rules.specs.TypeInfo.{Named, Info, nul_terminated, first_name, second_name, info_at, next_info, infos_at, is_reported_info, type_info_of, type_info_row, type_info_rows, type_info_answer}
use Rattle.rules.specs.Listing.{or_dash, answer_line, lines_from}
use Rattle.typeinfo.specs.Entries.{as_entry}
use Rattle.rules.proofs.TypeInfoLaws.{name-within, next-within}
use Rattle.typeinfo.proofs.EntryLaws.{inside}
use Rattle.listing.specs.Bound.{longest_in, longest_type, longest_answer}
use Rattle.listing.proofs.Longest.{Word32, type-short, decimal-short, hex-length, answer-short}
use Rattle.infolines.specs.Infos.{info_printed, info_most}
use Rattle.listing.specs.InfoLine.{is_shown, name_byte, name_bytes, size_column, info_line}
use Rattle.infolines.proofs.Printed.{decide, read, many}

-- ---- a line
byte-short : (b : ℕ) (t : Bool) → length (cond t (b ∷ []) (0x5C ∷ hex 2 b)) ≤ 3
byte-short b true = omega arith
byte-short b false = omega (arith, hex-length 2 b)

bytes-short : (s : List ℕ) → length (name_bytes s) ≤ 3 * length s
unfolding name_bytes name_byte
bytes-short [] = omega arith
bytes-short (b ∷ s) = let h = byte-short b (is_shown b) in let k = bytes-short s in simp length-append (omega arith)

dash_short : (s : List ℕ) → length (or_dash s) ≤ length s + 1
unfolding or_dash
dash_short [] = omega arith
dash_short (b ∷ s) = omega arith

name-short : (s : List ℕ) (start size : ℕ) → length (or_dash (name_bytes (part s start size))) ≤ 3 * size + 1
name-short s start size = omega (arith, dash_short (name_bytes (part s start size)), bytes-short (part s start size), length-take size (drop start s))

types : longest_type ≡ 16
unfolding longest_type longest_in control_type_names
types = refl

size-short : (size cut : ℕ) → Word32 size → length (size_column size cut) ≤ 11
unfolding size_column
size-short size cut h = go (eqb cut 0)
  where
    go : (b : Bool) → length (cond b (decimal size) (decimal size ++ text "+")) ≤ 11
    go true = omega (arith, decimal-short size h)
    go false = simp length-append (omega (arith, decimal-short size h))

line-short : (s : List ℕ) (n : ℕ) (i : Info) → Word32 n → Word32 i.index → Word32 i.name.size → length (info_line s n (type_info_row i)) ≤ 8 * (8 + i.name.size)
unfolding info_line
line-short s n i hn hi hs =
    simp length-append
    (omega (
      arith,
      types,
      decimal-short n hn,
      hex-length 4 i.type,
      type-short i.type,
      decimal-short i.index hi,
      size-short i.name.size i.name.cut hs,
      name-short s i.name.start i.name.size,
    ))

-- ---- an entry is no shorter than eight bytes and its name
name-next : (s : List ℕ) (p : ℕ) → p ≤ length s → p + (nul_terminated s p).size ≤ (nul_terminated s p).next
unfolding nul_terminated
name-next s p h = omega (arith, name-within s p h)

used-size : (a b : Named) (t : Bool) → (cond t a b).size ≤ a.size + b.size
used-size a b true = omega arith
used-size a b false = omega arith

past : (n size : ℕ) (t : Bool) → n ≤ size → n ≤ cond t (min (n + 36) size) n
past n size true h = omega arith
past n size false h = omega arith

passed : (s : List ℕ) (p : ℕ) → p + 8 ≤ length s → p + 8 + (info_at s p).name.size ≤ next_info s p
unfolding info_at next_info
passed s p h =
    let a = first_name s p in
    let b = second_name s p in
    let n1 : a.next ≤ length s = next-within s (p + 8) in
    let n2 : b.next ≤ length s = next-within s a.next in
    let f : p + 8 + a.size ≤ a.next = name-next s (p + 8) h in
    let g : a.next + b.size ≤ b.next = name-next s a.next n1 in
    omega (arith, used-size a b (eqb b.size 0), past b.next (length s) (eqb (u16 s p % 256) 0x77) n2)

-- ---- the lines of the entries from p on
module _ (s : List ℕ) (bytes : Bytes s) where
  word_fits : (p : ℕ) → Word32 (u32 s p)
  unfolding u32 u16
  word_fits p = omega (arith, bytes p, bytes (p + 1), bytes (p + 2), bytes (p + 2 + 1))

  abbrev Fit : ℕ → ℕ → List Info → Type 0
  Fit n p is = length (lines_from (info_line s) n (map type_info_row is)) + 8 * p ≤ 8 * length s

  one-fits : (n p q : ℕ) (i : Info) (is : List Info) (t : Bool) → length (info_line s n (type_info_row i)) + 8 * p ≤ 8 * q → p ≤ q
      → Fit n q is → Fit (n + 1) q is → Fit n p (cond t (i ∷ is) is)
  unfolding lines_from
  one-fits n p q i is true h l f g = simp length-append (omega arith)
  one-fits n p q i is false h l f g = omega arith

  module _ (small : Word32 (length s)) where
    step_fits : (k n p : ℕ) (t : Bool) → leb (p + 8) (length s) ≡ t → p ≤ length s → Word32 (n + suc k)
        → ((m : ℕ) → next_info s p ≤ length s → Word32 (m + k) → Fit m (next_info s p) (keep is_reported_info (infos_at s (next_info s p) k)))
        → Fit n p (keep is_reported_info (cond t (info_at s p ∷ infos_at s (next_info s p) k) []))
    unfolding keep lines_from info_at
    step_fits k n p true e h l rec =
        let g : p + 8 ≤ length s = leb-true (p + 8) (length s) e in
        let i = info_at s p in
        let m : p + 8 + i.name.size ≤ next_info s p = passed s p g in
        let q : next_info s p ≤ length s = inside s p (as_entry i (next_info s p)) refl in
        let x : length (info_line s n (type_info_row i)) ≤ 8 * (8 + i.name.size) = line-short s n i (omega arith) (word_fits (p + 4)) (omega arith) in
        one-fits n p (next_info s p) i (keep is_reported_info (infos_at s (next_info s p) k)) (is_reported_info i) (omega arith) (omega arith) (rec n q (omega arith)) (rec (n + 1) q (omega arith))
    step_fits k n p false e h l rec = omega arith

    lines_fit : (k n p : ℕ) → p ≤ length s → Word32 (n + k) → Fit n p (keep is_reported_info (infos_at s p k))
    unfolding infos_at keep lines_from
    lines_fit zero n p h l = omega arith
    lines_fit (suc k) n p h l = step_fits k n p (leb (p + 8) (length s)) refl h l (λ m q j. lines_fit k m (next_info s p) q j)

    lines_short : (rowRoom : ℕ) (t : Bool) → eqb (type_info_answer s rowRoom).number 0 ≡ t → length (cond t (lines_from (info_line s) 0 (type_info_rows s)) []) ≤ 8 * length s
    unfolding type_info_rows type_info_of
    lines_short rowRoom true e =
        let k = read s rowRoom (eqb-true (type_info_answer s rowRoom).number 0 e) in
        omega (arith, lines_fit (u32 s 12) 0 32 k.header (omega (arith, word_fits 12)))
    lines_short rowRoom false e = omega arith

  -- ---- the answer's line, and the whole
  answer-by : (n : ℕ) → Word32 n → (a b c d e : Bool) → length (answer_line (decide a b c d e n)) ≤ longest_answer
  answer-by n h true b c d e = answer-short (refusal too_long_lem) (omega arith) (omega arith) (omega arith) (omega arith)
  answer-by n h false true c d e = answer-short (refusal too_short_lem) (omega arith) (omega arith) (omega arith) (omega arith)
  answer-by n h false false true d e = answer-short (refusal other_magic) (omega arith) (omega arith) (omega arith) (omega arith)
  answer-by n h false false false true e = answer-short (refusal too_many_entries) (omega arith) (omega arith) (omega arith) (omega arith)
  answer-by n h false false false false true = answer-short (answer more_controls n 0 0) (omega arith) (omega arith) (omega arith) (omega arith)
  answer-by n h false false false false false = answer-short (answer 0 n 0 0) (omega arith) (omega arith) (omega arith) (omega arith)

  answer-fits : (rowRoom : ℕ) → length (answer_line (type_info_answer s rowRoom)) ≤ longest_answer
  unfolding type_info_answer
  answer-fits rowRoom =
      answer-by (length (type_info_of s)) (omega (arith, many s, word_fits 12)) (ltb longest (length s)) (ltb (length s) 32) (not (eqb (u32 s 0) 0xACCDEAF7))
      (ltb ((length s - 32) / 8) (u32 s 12)) (ltb rowRoom (length (type_info_of s)))

  pub printed-short : Word32 (length s) → (rowRoom : ℕ) → length (info_printed s rowRoom) ≤ info_most (length s)
  unfolding info_printed
  printed-short small rowRoom =
      let h = answer-fits rowRoom in
      let k = lines_short small rowRoom (eqb (type_info_answer s rowRoom).number 0) refl in
      simp length-append (omega arith)
