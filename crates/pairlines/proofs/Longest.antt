-- How long the lines can be.
use mathlib.Core.Bool.{Bool, true, false, cond}
use mathlib.Core.List.{List, [], ◌∷◌, ◌++◌}
use Prim.Native.Nat.{ℕ, ◌*◌, ◌≤◌, ◌<◌, min}
use native.Mathlib.Omega.{arith}
use lib.Dec.{eqb}
use lib.ListN.{length, drop, length-append, length-take}
use Rattle.rules.specs.Lists.{text}
use Rattle.rules.specs.Bytes.{part}
use Rattle.rules.specs.Digits.{decimal, hex}
use Rattle.rules.specs.Texts.{label}
use Rattle.rules.specs.Rows.{control_width, row_at}
use Rattle.rules.specs.Pairing.{mark_of, start_of, size_of}
use Rattle.rules.specs.Listing.{or_dash, line}
use Rattle.text.proofs.Digits.{longest-label}
use Rattle.listing.specs.InfoLine.{is_shown, name_byte, name_bytes}
use Rattle.listing.specs.Shown.{lines_to}
use Rattle.listing.proofs.Longest.{Word32, decimal-short, hex-length, lines_short}
use Rattle.pairlines.specs.Pairs.{is_letter, unit_text, units_text, shown_name, is_unpaired, unpaired_line, count_line, longest_unpaired}
use Rattle.pairlines.specs.Told.{tally}
use Rattle.pairlines.proofs.UnpairedLaws.{tally-one}

-- ---- names
byte-short : (b : ℕ) → length (name_byte b) ≤ 3
unfolding name_byte
byte-short b = by (is_shown b)
  where
    by : (t : Bool) → length (cond t (b ∷ []) (0x5C ∷ hex 2 b)) ≤ 3
    by true = omega arith
    by false = omega (arith, hex-length 2 b)

bytes-short : (s : List ℕ) → length (name_bytes s) ≤ 3 * length s
unfolding name_bytes
bytes-short [] = omega arith
bytes-short (b ∷ s) = simp length-append (omega (arith, byte-short b, bytes-short s))

unit_short : (low high : ℕ) → length (unit_text low high) ≤ 6
unfolding unit_text
unit_short low high = by (is_letter low high)
  where
    by : (t : Bool) → length (cond t (low ∷ []) (text "\\u" ++ (hex 2 high ++ hex 2 low))) ≤ 6
    by true = omega arith
    by false = simp length-append (omega (arith, hex-length 2 low, hex-length 2 high))

units_short : (s : List ℕ) → length (units_text s) ≤ 3 * length s
unfolding units_text
units_short [] = omega arith
units_short (a ∷ []) = omega arith
units_short (a ∷ b ∷ s) = simp length-append (omega (arith, unit_short a b, units_short s))

or_dash_lem : (s : List ℕ) (most : ℕ) → 1 ≤ most → length s ≤ most → length (or_dash s) ≤ most
unfolding or_dash
or_dash_lem [] most o h = o
or_dash_lem (b ∷ s) most o h = h

shown-short : (s row : List ℕ) → Word32 (start_of row) → length (shown_name s row) ≤ 1530
unfolding shown_name
shown-short s row h = by (eqb (mark_of row) 1) (eqb (mark_of row) 2)
  where
    bytes : List ℕ
    bytes = part s (start_of row) (min (size_of row) 255)

    units : List ℕ
    units = part s (start_of row) (min (size_of row) 510)

    by : (a b : Bool) → length (cond a (label (start_of row)) (cond b (or_dash (name_bytes bytes)) (or_dash (units_text units)))) ≤ 1530
    by true b = omega (arith, longest-label (start_of row) h)
    by false true = or_dash_lem (name_bytes bytes) 1530 (omega arith) (omega (arith, bytes-short bytes, length-take (min (size_of row) 255) (drop (start_of row) s)))
    by false false = or_dash_lem (units_text units) 1530 (omega arith) (omega (arith, units_short units, length-take (min (size_of row) 510) (drop (start_of row) s)))

-- ---- lines
module _ (s t : List ℕ) (infos : List (List ℕ)) where
  unpaired_short : (n : ℕ) (row : List ℕ) → Word32 n → Word32 (start_of row) → length (unpaired_line s t infos n row) ≤ longest_unpaired
  unfolding unpaired_line
  unpaired_short n row hn h = by (is_unpaired s t infos row)
    where
      by : (b : Bool) → length (cond b (line (text "U" ∷ decimal n ∷ shown_name s row ∷ [])) []) ≤ longest_unpaired
      by true = simp length-append (omega (arith, decimal-short n hn, shown-short s row h))
      by false = omega arith

  pub unpaired_most : (n : ℕ) (words : List ℕ) → Word32 n → ((k : ℕ) → k < n → Word32 (start_of (row_at control_width k words)))
      → length (lines_to (unpaired_line s t infos) control_width n words) ≤ n * longest_unpaired
  unpaired_most n words hn h =
      lines_short (unpaired_line s t infos) longest_unpaired control_width words n λ k l. unpaired_short k (row_at control_width k words) (omega arith) (h k l)

  pub tally-most : (n : ℕ) (words : List ℕ) → length (lines_to (tally s t infos) control_width n words) ≤ n
  tally-most n words = omega (arith, lines_short (tally s t infos) 1 control_width words n (λ k l. tally-one s t infos k (row_at control_width k words)))

pub count-short : (n : ℕ) → Word32 n → length (count_line n) ≤ 20
unfolding count_line
count-short n h = simp length-append (omega (arith, decimal-short n h))
