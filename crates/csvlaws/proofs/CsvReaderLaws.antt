-- The reader of comma-separated text, as a loop meets it: what a byte adds to the counts, and to what is written.
use Prim.Native.Nat.{ℕ, zero, suc, ◌+◌, ◌-◌, ◌<◌}
use native.Mathlib.Omega.{arith}
use mathlib.Core.Path.{◌≡◌, refl, ap, ◌∙◌}
use mathlib.Core.Bool.{Bool, true, false, cond, ◌&&◌}
use mathlib.Core.List.{List, [], ◌∷◌, ◌++◌, append_assoc}
use mathlib.Core.Option.{Option, none, some}
use lib.Dec.{ltb, eqb}
use lib.ListN.{length, get_or, take, length-append}
use lib.Seq.{take_at, drop_at}
use Rattle.rules.specs.Bytes.{part}
use Rattle.rules.specs.Listing.{word}
use Rattle.rules.specs.Rows.{field_width}
use Rattle.rules.proofs.RowsLaws.{Wide}
use Rattle.rules.specs.Lists.{concat}
use Rattle.rules.specs.Csv.{comma, quote, cr, lf, is_data, field_end, step, Fields, new_field, with_byte, at_end, after, read_from, spans_from}
use Rattle.rules.specs.declared.Mode.{Mode}
use Rattle.rules.specs.declared.Mode.TheVariants.{Start, Plain, Quoted, Closing, Returned}
use Rattle.rules.specs.declared.Step.{Step}
use Rattle.rules.specs.declared.Step.TheVariants.{Pass, Put, Close, Refuse}

-- ---- counts: bytes and fields
abbrev pub Counts : Type 0
Counts = Option (ℕ × ℕ)

abbrev pub counted : Option Fields → Counts
counted none = none
counted (some fs) = some (length (concat fs), length fs)

abbrev pub more : ℕ → ℕ → Counts → Counts
more b n none = none
more b n (some c) = some (b + c.0, n + c.1)

pub more-more : (a b c d : ℕ) (x : Counts) → more a b (more c d x) ≡ more (a + c) (b + d) x
more-more a b c d none = refl
more-more a b c d (some y) =
    let e : a + (c + y.0) ≡ a + c + y.0 = omega arith in
    let f : b + (d + y.1) ≡ b + d + y.1 = omega arith in
    λ i. some (e i, f i)

-- what a step adds
abbrev pub tally : Step → (Mode → ℕ → Counts) → Counts
tally (Pass p k) rest = rest p k
tally (Put p k) rest = more 1 0 (rest p k)
tally (Close p k) rest = more 0 1 (rest p k)
tally Refuse rest = none

-- ---- inside a field there is a field
abbrev pub Inside : Mode → Type 0
Inside Start = ⊥
Inside Plain = Unit
Inside Quoted = Unit
Inside Closing = Unit
Inside Returned = ⊥

-- a field is left, if anything is
abbrev pub Full : Option Fields → Type 0
Full none = Unit
Full (some []) = ⊥
Full (some (f ∷ fs)) = Unit

full_put : (b : ℕ) (o : Option Fields) → Full (with_byte b o)
full_put b none = tt
full_put b (some []) = tt
full_put b (some (f ∷ fs)) = tt

full_new : (o : Option Fields) → Full (new_field o)
full_new none = tt
full_new (some fs) = tt

full_if : (c : Bool) (x y : Step) (b : ℕ) (rest : Mode → ℕ → Option Fields) → Full (after x b rest) → Full (after y b rest) → Full (after (cond c x y) b rest)
full_if true x y b rest h k = h
full_if false x y b rest h k = k

full_end_of : (k b : ℕ) (rest : Mode → ℕ → Option Fields) → Full (after (field_end k b) b rest)
unfolding field_end
full_end_of k b rest =
    full_if (eqb b comma && ltb k 4) _ _ b rest (full_new (rest Start (k + 1)))
    (full_if (eqb b cr && eqb k 4) _ _ b rest (full_new (rest Returned 0)) tt)

end_full : (t : Bool) → Full (cond t (some ([] ∷ [])) none)
end_full true = tt
end_full false = tt

pub full : (s : List ℕ) (p : Mode) (k : ℕ) → Inside p → Full (read_from p k s)
unfolding read_from step at_end
full [] Start k h = absurd h
full [] Plain k h = end_full (eqb k 4)
full [] Quoted k h = tt
full [] Closing k h = end_full (eqb k 4)
full [] Returned k h = absurd h
full (b ∷ s) Start k h = absurd h
full (b ∷ s) Plain k h = full_if (is_data b) _ _ b (λ q j. read_from q j s) (full_put b (read_from Plain k s)) (full_end_of k b (λ q j. read_from q j s))
full (b ∷ s) Quoted k h = full_if (eqb b quote) _ _ b (λ q j. read_from q j s) (full s Closing k tt) (full_put b (read_from Quoted k s))
full (b ∷ s) Closing k h = full_if (eqb b quote) _ _ b (λ q j. read_from q j s) (full_put b (read_from Quoted k s)) (full_end_of k b (λ q j. read_from q j s))
full (b ∷ s) Returned k h = absurd h

-- ---- a byte that is put is put inside a field
abbrev pub Puts : Step → Type 0
Puts (Pass p k) = Unit
Puts (Put p k) = Inside p
Puts (Close p k) = Unit
Puts Refuse = Unit

puts_if : (c : Bool) (x y : Step) → Puts x → Puts y → Puts (cond c x y)
puts_if true x y h k = h
puts_if false x y h k = k

puts_end_of : (k b : ℕ) → Puts (field_end k b)
unfolding field_end
puts_end_of k b = puts_if (eqb b comma && ltb k 4) _ _ tt (puts_if (eqb b cr && eqb k 4) _ _ tt tt)

pub puts : (p : Mode) (k b : ℕ) → Puts (step p k b)
unfolding step
puts Start k b = puts_if (eqb b quote) _ _ tt (puts_if (is_data b) _ _ tt (puts_end_of k b))
puts Plain k b = puts_if (is_data b) _ _ tt (puts_end_of k b)
puts Quoted k b = puts_if (eqb b quote) _ _ tt tt
puts Closing k b = puts_if (eqb b quote) _ _ tt (puts_end_of k b)
puts Returned k b = puts_if (eqb b lf) (Pass Start 0) Refuse tt tt

-- ---- the count of what is left, by the step
count-put : (b : ℕ) (o : Option Fields) → Full o → counted (with_byte b o) ≡ more 1 0 (counted o)
unfolding concat
count-put b none h = refl
count-put b (some []) h = absurd h
count-put b (some (f ∷ fs)) h =
    let x : suc (length (f ++ concat fs)) ≡ 1 + length (f ++ concat fs) = omega arith in
    let y : suc (length fs) ≡ 0 + suc (length fs) = omega arith in
    λ i. some (x i, y i)

count_new : (o : Option Fields) → counted (new_field o) ≡ more 0 1 (counted o)
unfolding concat
count_new none = refl
count_new (some fs) =
    let x : length (concat fs) ≡ 0 + length (concat fs) = omega arith in
    let y : suc (length fs) ≡ 1 + length fs = omega arith in
    λ i. some (x i, y i)

count_by : (t : Step) (b : ℕ) (s : List ℕ) → Puts t → counted (after t b (λ q j. read_from q j s)) ≡ tally t (λ q j. counted (read_from q j s))
count_by (Pass q j) b s h = refl
count_by (Put q j) b s h = count-put b (read_from q j s) (full s q j h)
count_by (Close q j) b s h = count_new (read_from q j s)
count_by Refuse b s h = refl

pub count-step : (p : Mode) (k b : ℕ) (s : List ℕ) → counted (read_from p k (b ∷ s)) ≡ tally (step p k b) (λ q j. counted (read_from q j s))
unfolding read_from
count-step p k b s = count_by (step p k b) b s (puts p k b)

-- ---- what is written: the bytes, and the spans, where the field that the reader is in began at `from` and its next byte goes to `at`
abbrev pub spans_in : ℕ → ℕ → Fields → List (List ℕ)
spans_in from at [] = []
spans_in from at (f ∷ fs) = (from ∷ (at + length f - from) ∷ []) ∷ spans_from (at + length f) fs

pub spans_begin : (at : ℕ) (fs : Fields) → spans_from at fs ≡ spans_in at at fs
unfolding spans_from
spans_begin at [] = refl
spans_begin at (f ∷ fs) = let e : length f ≡ at + length f - at = omega arith in ap (λ n. (at ∷ n ∷ []) ∷ spans_from (at + length f) fs) e

pub spans_put : (from at b : ℕ) (f : List ℕ) (fs : Fields) → spans_in from at ((b ∷ f) ∷ fs) ≡ spans_in from (at + 1) (f ∷ fs)
spans_put from at b f fs = let e : at + suc (length f) ≡ at + 1 + length f = omega arith in ap (λ n. (from ∷ (n - from) ∷ []) ∷ spans_from n fs) e

pub spans_close : (from at : ℕ) (fs : Fields) → spans_in from at ([] ∷ fs) ≡ (from ∷ (at - from) ∷ []) ∷ spans_in at at fs
spans_close from at fs = let e : at + 0 ≡ at = omega arith in ap (λ n. (from ∷ (n - from) ∷ []) ∷ spans_from n fs) e ∙ ap (λ l. (from ∷ (at - from) ∷ []) ∷ l) (spans_begin at fs)

pub bytes-put : (b : ℕ) (f : List ℕ) (fs : Fields) → concat ((b ∷ f) ∷ fs) ≡ b ∷ concat (f ∷ fs)
unfolding concat
bytes-put b f fs = refl

pub bytes_close : (fs : Fields) → concat ([] ∷ fs) ≡ concat fs
unfolding concat
bytes_close fs = refl

-- ---- spans lie end to end in the bytes
pub spans_many : (at : ℕ) (fs : Fields) → length (spans_from at fs) ≡ length fs
unfolding spans_from
spans_many at [] = refl
spans_many at (f ∷ fs) = ap suc (spans_many (at + length f) fs)

pub spans_wide : (at : ℕ) (fs : Fields) → Wide field_width (spans_from at fs)
unfolding spans_from
spans_wide at [] = tt
spans_wide at (f ∷ fs) = (refl, spans_wide (at + length f) fs)

-- a span starts where those before it end
pub span_start : (at : ℕ) (fs : Fields) (i : ℕ) → i < length fs → word (get_or (spans_from at fs) i []) 0 ≡ at + length (concat (take i fs))
unfolding spans_from concat
span_start at [] i h = absurd (omega arith)
span_start at (f ∷ fs) zero h = omega arith
span_start at (f ∷ fs) (suc i) h =
    let e = span_start (at + length f) fs i (omega arith) in
    e ∙ simp length-append (omega arith)

-- the bytes that a row tells
abbrev pub told : List ℕ → List ℕ → List ℕ
told bytes row = part bytes (word row 0) (word row 1)

pub span_told : (before after : List ℕ) (at : ℕ) (fs : Fields) → length before ≡ at → (i : ℕ) → i < length fs
    → told (before ++ (concat fs ++ after)) (get_or (spans_from at fs) i []) ≡ get_or fs i []
unfolding spans_from concat
span_told before after at [] e i h = absurd (omega arith)
span_told before after at (f ∷ fs) e zero h =
    rw (drop_at before ((f ++ concat fs) ++ after) at e, append_assoc f (concat fs) after) (take_at f (concat fs ++ after) (length f) refl)
span_told before after at (f ∷ fs) e (suc i) h =
    rw (append_assoc f (concat fs) after, ← (append_assoc before f (concat fs ++ after)))
    (span_told (before ++ f) after (at + length f) fs (length-append before f ∙ rw e) i (omega arith))
