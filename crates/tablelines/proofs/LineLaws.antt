-- A text's lines, one at a time.
use Prim.Native.Nat.{ℕ, zero, suc, ◌+◌, ◌-◌, ◌<◌}
use native.Mathlib.Omega.{arith}
use mathlib.Core.Path.{◌≡◌, refl, sym, ap, ◌∙◌}
use mathlib.Core.Bool.{Bool, true, false, not}
use mathlib.Core.List.{List, [], ◌∷◌, ◌++◌, map}
use borrow.Author.Tests.{ne_eqb, lt-ltb}
use lib.Dec.{eqb, ltb}
use lib.ListN.{length, take, drop, length-drop, length-append}
use lib.Seq.{drop-append-add, take-length}
use Rattle.std.proofs.lemmas.List.{drop-drop}
use Rattle.tablelines.specs.Words.{onto, lines_of, line_end, sign, stops, before, onward, word, after_word}
use Rattle.std.proofs.Common.{Result}
use Rattle.tablelines.specs.Items.{Item, item_of, item_in, item_by, items_of, said, LineAt}
use Rattle.tablelines.specs.declared.faults.Fault.{Fault}
use Rattle.tablelines.specs.declared.Item.{Item as Taken}

-- ---- the first line ends in front of the first byte 10, and the second begins after that
abbrev Begins : List ℕ → Type 0
Begins s = lines_of s ≡ before line_end s ∷ lines_of (drop 1 (onward line_end s))

begins-last : (b : ℕ) (t : Bool) → eqb b 10 ≡ t → Begins (b ∷ [])
unfolding lines_of before onward stops onto
begins-last b true e = rw e
begins-last b false e = rw e

begins-more : (b : ℕ) (s : List ℕ) (t : Bool) → eqb b 10 ≡ t → Begins s → Begins (b ∷ s)
unfolding lines_of before onward stops onto
begins-more b s true e h = rw e
begins-more b s false e h = rw (e, h)

begins : (s : List ℕ) (b : ℕ) → Begins (b ∷ s)
begins [] b = begins-last b (eqb b 10) refl
begins (x ∷ s) b = begins-more b (x ∷ s) (eqb b 10) refl (begins s x)

pub begun : (s : List ℕ) → 0 < length s → Begins s
begun [] h = absurd (omega arith)
begun (b ∷ s) h = begins s b

-- ---- the line at a place
pub line-found : {s : List ℕ} {at : ℕ} {line rest unsigned : List ℕ} {item : Result Taken Fault} → at < length s → take (length s - at) (drop at s) ≡ line ++ rest → before line_end (take (length s - at) (drop at s)) ≡ line
    → onward line_end (take (length s - at) (drop at s)) ≡ rest → before sign line ≡ unsigned → said item ≡ item_in unsigned → LineAt s at (record { item = item; next = at + length line + 1 })
unfolding items_of item_of
line-found {s} {at} {line} {rest} {unsigned} {item} l j f g u e =
    let n = length-drop at s in
    let all : take (length s - at) (drop at s) ≡ drop at s = (let e : length s - at ≡ length (drop at s) = omega arith in ap (λ k. take k (drop at s)) e ∙ take-length (drop at s)) in
    let j : drop at s ≡ line ++ rest = sym all ∙ j in
    let f : before line_end (drop at s) ≡ line = ap (before line_end) (sym all) ∙ f in
    let g : onward line_end (drop at s) ≡ rest = ap (onward line_end) (sym all) ∙ g in
    let m = ap length j ∙ length-append line rest in
    let behind : drop 1 rest ≡ drop (at + length line + 1) s =
    sym (drop-append-add line rest 1) ∙ ap (drop (length line + 1)) (sym j) ∙ drop-drop (length line + 1) at s ∙ (let e : at + (length line + 1) ≡ at + length line + 1 = omega arith in ap (λ (k : ℕ). drop k s) e) in
    let lines : lines_of (drop at s) ≡ line ∷ lines_of (drop (at + length line + 1) s) = begun (drop at s) (omega arith) ∙ (λ i. f i ∷ lines_of ((ap (drop 1) g ∙ behind) i)) in
    let first : item_of line ≡ said item = ap item_in u ∙ sym e in
    record { is = ap (map item_of) lines ∙ ap (λ (x : Item). x ∷ map item_of (lines_of (drop (at + length line + 1) s))) first; on = omega arith; within = omega arith }

-- ---- the words of a line
longer : (n : ℕ) → not (eqb n 0) ≡ ltb 0 n
longer zero = refl
longer (suc n) = rw (ne_eqb (suc n) 0 (λ e. omega arith), lt-ltb 0 (suc n) (omega arith))

pub words_in : (s : List ℕ) {first second third fourth rest rest2 rest3 : List ℕ} {empty : Bool} → first ≡ word s → rest ≡ after_word s → second ≡ word rest → rest2 ≡ after_word rest → third ≡ word rest2 → rest3 ≡ after_word rest2
    → fourth ≡ word rest3 → empty ≡ eqb (length fourth) 0 → item_by first second third (not empty) ≡ item_in s
unfolding item_in
words_in s {first} {second} {third} {fourth} {rest} {rest2} {rest3} {empty} a ra b rb d rd f e =
    let two : second ≡ word (after_word s) = b ∙ ap word ra in
    let after-two : rest2 ≡ after_word (after_word s) = rb ∙ ap after_word ra in
    let three : third ≡ word (after_word (after_word s)) = d ∙ ap word after-two in
    let four : fourth ≡ word (after_word (after_word (after_word s))) = f ∙ ap word (rd ∙ ap after_word after-two) in
    let more : not empty ≡ ltb 0 (length (word (after_word (after_word (after_word s))))) = ap not e ∙ longer (length fourth) ∙ ap (λ (w : List ℕ). ltb 0 (length w)) four in
    λ i. item_by (a i) (two i) (three i) (more i)
