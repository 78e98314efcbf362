-- Words in decimal, written one after another, and how long the line of a difference is.
use Prim.Native.Nat.{ℕ, suc, ◌+◌, ◌*◌, ◌≤◌, ◌<◌}
use native.Mathlib.Omega.{arith}
use native.Mathlib.Nat.{min-le_left}
use native.Mathlib.Numerals.{add-one}
use mathlib.Core.Path.{◌≡◌, refl, sym, ap, ◌∙◌}
use mathlib.Core.List.{List, [], ◌∷◌, ◌++◌, append_assoc, append-nil}
use lib.ListN.{length, get_or, take, drop, length-append, length-take}
use lib.Seq.{take-suc, get_or-take, get_or-drop}
use Rattle.rules.specs.Lists.{text}
use Rattle.rules.specs.Bytes.{part}
use Rattle.rules.specs.Digits.{decimal}
use Rattle.rules.specs.Rows.{difference_width, control_width, row_at}
use Rattle.rules.specs.Listing.{word}
use Rattle.text.specs.Writer.{Wrote}
use Rattle.text.proofs.Chain.{◌⨟◌}
use Rattle.listing.proofs.Longest.{Word32, decimal-short}
use Rattle.difflist.specs.Lines.{spaced, difference_line}

-- ---- one more
both : (a b : List ℕ) → spaced (a ++ b) ≡ spaced a ++ spaced b
unfolding spaced
both [] b = refl
both (x ∷ a) b =
    ap (λ (l : List ℕ). text " " ++ (decimal x ++ l)) (both a b)
    ∙ ap (λ (l : List ℕ). text " " ++ l) (sym (append_assoc (decimal x) (spaced a) (spaced b)))
    ∙ sym (append_assoc (text " ") (decimal x ++ spaced a) (spaced b))

one : (w : ℕ) → spaced (w ∷ []) ≡ text " " ++ decimal w
unfolding spaced
one w = ap (λ (l : List ℕ). text " " ++ l) (append-nil (decimal w))

pub one_more : (s : List ℕ) (i : ℕ) → i < length s → spaced (take (i + 1) s) ≡ spaced (take i s) ++ (text " " ++ decimal (get_or s i 0))
one_more s i h =
    rw (add-one, take-suc s i 0 h)
    (both (take i s) (get_or s i 0 ∷ []) ∙ ap (λ (l : List ℕ). spaced (take i s) ++ l) (one (get_or s i 0)))

-- ---- how long they are
spaced-short : (ws : List ℕ) → ((i : ℕ) → i < length ws → Word32 (get_or ws i 0)) → length (spaced ws) ≤ length ws * 11
unfolding spaced
spaced-short [] h = omega arith
spaced-short (w ∷ ws) h =
    let d = decimal-short w (h 0 (omega arith)) in
    let rest = spaced-short ws (λ i l. h (suc i) (omega arith)) in
    simp length-append (omega arith)

-- words of a part are words of the whole
part-words : (ws : List ℕ) → ((i : ℕ) → Word32 (get_or ws i 0)) → (p n i : ℕ) → i < length (part ws p n) → Word32 (get_or (part ws p n) i 0)
part-words ws h p n i l =
    let k : i < n = omega (arith, length-take n (drop p ws), min-le_left n (length (drop p ws))) in
    rw (get_or-take n (drop p ws) i 0 k ∙ get_or-drop p ws i 0) (h (p + i))

part-short : (ws : List ℕ) → ((i : ℕ) → Word32 (get_or ws i 0)) → (p n : ℕ) → length (spaced (part ws p n)) ≤ n * 11
part-short ws h p n =
    let l : length (part ws p n) ≤ n = omega (arith, length-take n (drop p ws), min-le_left n (length (drop p ws))) in
    let k = spaced-short (part ws p n) (part-words ws h p n) in
    omega arith

pub line-short : (rows controls : List ℕ) → ((i : ℕ) → Word32 (get_or rows i 0)) → ((i : ℕ) → Word32 (get_or controls i 0))
    → (n : ℕ) → length (difference_line controls n (row_at difference_width n rows)) ≤ 156
unfolding difference_line
line-short rows controls h k n =
    simp length-append
    (omega (arith, part-short rows h (n * difference_width) difference_width, part-short controls k (word (row_at difference_width n rows) 1 * control_width) 4))

-- ---- the line of a difference, by its parts
pub line_wrote : (rows controls : List ℕ) (n : ℕ) {row shown : List ℕ} {control : ℕ}
    → row ≡ part rows (n * 10) 10 → control ≡ word row 1 → shown ≡ part controls (control * 8) 4
    → {o b1 b2 b3 new : List ℕ} {at p1 p2 p3 e : ℕ}
    → Wrote o at (text "D") b1 p1 → Wrote b1 p1 (spaced row) b2 p2 → Wrote b2 p2 (spaced shown) b3 p3 → Wrote b3 p3 (text "\n") new e
    → Wrote o at (difference_line controls n (row_at difference_width n rows)) new e
unfolding difference_line
line_wrote rows controls n a b c w1 w2 w3 w4 = rw (sym a, sym b, sym c) (w1 ⨟ w2 ⨟ w3 ⨟ w4)
