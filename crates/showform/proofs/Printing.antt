-- What is printed is what is shown of all that standard input had.
use Prim.Native.Nat.{ℕ, suc, ◌+◌, ◌-◌, ◌<◌, ◌≤◌}
use native.Mathlib.Omega.{arith}
use mathlib.Core.Path.{◌≡◌, refl, sym, ap, ◌∙◌}
use mathlib.Core.Bool.{Bool, true, false, cond}
use mathlib.Core.List.{List, [], ◌∷◌, ◌++◌}
use borrow.Author.Tests.{lt-ltb, le-ltb, ltb-true, ltb-false, eq-eqb, ne_eqb}
use lib.Dec.{ltb}
use lib.ListN.{length, set, take, drop, length-set, length-append, length-drop}
use lib.Seq.{take_all}
use Rattle.rules.specs.Bytes.{u32}
use Rattle.rules.specs.Answer.{refusal, too_long_lem, bad_table, no_room_for_text}
use Rattle.rules.specs.Listing.{answer_line}
use Rattle.listing.proofs.Longest.{answer-short}
use Rattle.listing.proofs.Placed.{held}
use Rattle.text.specs.Writer.{Buffer, push, write, Wrote}
use Rattle.text.proofs.Written.{next}
use Rattle.inputs.specs.Lent.{zeros}
use Rattle.tabletext.specs.Input.{Began, whole, filled}
use Rattle.showlines.specs.Shown.{shown_blob, shown_paired}
use Rattle.showform.specs.Printed.{longest_stream, longest_input, info_at, blob_at, table_in, info_in, blob_in, parts_shown, shown_in, small_infos, small_controls, small_properties, large_infos, large_controls, large_properties, infos_for, controls_for, properties_for, shown_for, text_room, fitted, printed, most_read, Ready, Refused}

-- ---- what is shown, by the parts of the input
module _ (table info stream is cs ps : List ℕ) where
  pub info_long : longest_stream < length info → answer_line (refusal too_long_lem) ≡ parts_shown table info stream is cs ps
  unfolding parts_shown
  info_long h = rw (lt-ltb longest_stream (length info) h)

  module _ (h : length info ≤ longest_stream) where
    pub blob-long : longest_stream < length stream → answer_line (refusal too_long_lem) ≡ parts_shown table info stream is cs ps
    unfolding parts_shown
    blob-long k = rw (le-ltb longest_stream (length info) h, lt-ltb longest_stream (length stream) k)

    module _ (k : length stream ≤ longest_stream) where
      pub alone : length info ≡ 0 → shown_blob table stream cs ps ≡ parts_shown table info stream is cs ps
      unfolding parts_shown
      alone e = rw (le-ltb longest_stream (length info) h, le-ltb longest_stream (length stream) k, eq-eqb (length info) 0 e)

      pub paired : (length info ≡ 0 → ⊥) → shown_paired table info stream is cs ps ≡ parts_shown table info stream is cs ps
      unfolding parts_shown
      paired e = rw (le-ltb longest_stream (length info) h, le-ltb longest_stream (length stream) k, ne_eqb (length info) 0 e)

-- ---- by the input
module _ (input is cs ps : List ℕ) where
  pub input_long : longest_input < length input → answer_line (refusal too_long_lem) ≡ shown_in input is cs ps
  unfolding shown_in
  input_long h = rw (lt-ltb longest_input (length input) h)

  module _ (h : length input ≤ longest_input) (n m : ℕ) (ne : n ≡ u32 input 0) (me : m ≡ u32 input (4 + n)) where
    m_is : m ≡ u32 input (4 + u32 input 0)
    m_is = me ∙ ap (λ (k : ℕ). u32 input (4 + k)) ne

    at-is : 4 + n + 4 + m ≡ blob_at input
    at-is = omega (arith, ne, m_is)

    pub input_cut : length input < 4 + n + 4 + m → answer_line (refusal bad_table) ≡ shown_in input is cs ps
    unfolding shown_in
    input_cut k = rw (le-ltb longest_input (length input) h, lt-ltb (length input) (blob_at input) (omega (arith, at-is)))

    -- the parts of the input, as slices
    module _ (k : 4 + n + 4 + m ≤ length input) {table info stream : List ℕ} (te : table ≡ take (4 + n - 4) (drop 4 input))
        (ie : info ≡ take (4 + n + 4 + m - (4 + n + 4)) (drop (4 + n + 4) input)) (se : stream ≡ take (length input - (4 + n + 4 + m)) (drop (4 + n + 4 + m) input)) where
      table_is : table ≡ table_in input
      table_is = let d : 4 + n - 4 ≡ u32 input 0 = omega (arith, ne) in te ∙ ap (λ (i : ℕ). take i (drop 4 input)) d

      info_is : info ≡ info_in input
      info_is =
          let d : 4 + n + 4 + m - (4 + n + 4) ≡ u32 input (info_at input) = omega (arith, m_is) in
          let b : 4 + n + 4 ≡ info_at input + 4 = omega (arith, ne) in
          ie ∙ (λ i. take (d i) (drop (b i) input))

      blob-is : stream ≡ blob_in input
      blob-is =
          se ∙ take_all (length input - (4 + n + 4 + m)) (drop (4 + n + 4 + m) input) (omega (arith, length-drop (4 + n + 4 + m) input))
          ∙ ap (λ (i : ℕ). drop i input) at-is

      pub input_whole : parts_shown table info stream is cs ps ≡ shown_in input is cs ps
      unfolding shown_in
      input_whole =
          rw (le-ltb longest_input (length input) h, le-ltb (length input) (blob_at input) (omega (arith, at-is)))
          (λ i. parts_shown (table_is i) (info_is i) (blob-is i) is cs ps)

-- ---- the words that are lent
pub small-ready : {input is cs ps : List ℕ} → length input < 16384 → zeros small_infos ≡ is → zeros small_controls ≡ cs → zeros small_properties ≡ ps → Ready input is cs ps
unfolding infos_for controls_for properties_for
small-ready {input} h i c p = record {
  short = omega arith;
  for_infos = rw (lt-ltb (length input) 16384 h) i;
  for_controls = rw (lt-ltb (length input) 16384 h) c;
  for_properties = rw (lt-ltb (length input) 16384 h) p;
}

pub large_ready : {input is cs ps : List ℕ} → 16384 ≤ length input → length input ≤ most_read → zeros large_infos ≡ is → zeros large_controls ≡ cs → zeros large_properties ≡ ps → Ready input is cs ps
unfolding infos_for controls_for properties_for
large_ready {input} h l i c p = record {
  short = l;
  for_infos = rw (le-ltb (length input) 16384 h) i;
  for_controls = rw (le-ltb (length input) 16384 h) c;
  for_properties = rw (le-ltb (length input) 16384 h) p;
}

lent_is : {read is cs ps : List ℕ} → Ready read is cs ps → shown_in read is cs ps ≡ shown_for read
unfolding shown_for
lent_is {read} r = λ i. shown_in read (sym r.for_infos i) (sym r.for_controls i) (sym r.for_properties i)

-- ---- of a longer input no more than that counts
long-is : (input : List ℕ) → longest_input < length input → shown_for input ≡ answer_line (refusal too_long_lem)
unfolding shown_for
long-is input h = sym (input_long input (infos_for input) (controls_for input) (properties_for input) h)

of_read : {read all : List ℕ} → Began most_read read all → printed read ≡ printed all
unfolding printed
of_read whole = refl
of_read {read} (filled k rest) = ap fitted (long-is read (omega arith) ∙ sym (long-is (read ++ rest) (simp length-append (omega arith))))

-- ---- a text that has room, and one that hasn't
full_step : (o : List ℕ) (a b : ℕ) (x : List ℕ) → ((o : List ℕ) (a : ℕ) → a ≤ length o → length o ≤ a + length x → (write (o, a) x).1 ≡ length o)
    → a ≤ length o → length o ≤ a + suc (length x) → (t : Bool) → ltb a (length o) ≡ t → (write (cond {A = Buffer} t (set o a b, a + 1) (o, a)) x).1 ≡ length o
full_step o a b x rest h k true e =
    let l = length-set o a b in
    rest (set o a b) (a + 1) (omega (arith, ltb-true a (length o) e, l)) (omega (arith, l)) ∙ l
full_step o a b x rest h k false e = rest o a h (omega (arith, ltb-false a (length o) e))

full : (x o : List ℕ) (a : ℕ) → a ≤ length o → length o ≤ a + length x → (write (o, a) x).1 ≡ length o
unfolding write push
full [] o a h k = omega arith
full (b ∷ x) o a h k = full_step o a b x (λ o a. full x o a) h k (ltb a (length o)) refl

module _ {o x n : List ℕ} {e : ℕ} (w : Wrote o 0 x n e) where
  has_room : e < length o → length x ≤ length o
  has_room h = go (ltb (length o) (length x)) refl
    where
      go : (t : Bool) → ltb (length o) (length x) ≡ t → length x ≤ length o
      go true q =
          let l = ltb-true (length o) (length x) q in
          absurd (omega (arith, full x o 0 (omega arith) (omega (arith, l)), ap (λ (s : Buffer). s.1) w.is))
      go false q = ltb-false (length o) (length x) q

  as_long : length x ≤ length o → e ≡ length x
  as_long h = let k : 0 + length x ≤ length o = omega arith in omega (arith, next w k)

  no_room : length o ≡ text_room + 1 → text_room < e → text_room < length x
  no_room l h = go (ltb text_room (length x)) refl
    where
      go : (t : Bool) → ltb text_room (length x) ≡ t → text_room < length x
      go true q = ltb-true text_room (length x) q
      go false q =
          let k = ltb-false text_room (length x) q in
          absurd (omega (arith, as_long (omega (arith, k))))

module _ (x : List ℕ) where
  fits : length x ≤ text_room → fitted x ≡ x
  unfolding fitted
  fits h = rw (le-ltb text_room (length x) h)

  too_long : text_room < length x → fitted x ≡ answer_line (refusal no_room_for_text)
  unfolding fitted
  too_long h = rw (lt-ltb text_room (length x) h)

module _ {read is cs ps old new : List ℕ} {end : ℕ} (w : Wrote old 0 (shown_in read is cs ps) new end) (r : Ready read is cs ps) where
  printed-is : fitted (shown_in read is cs ps) ≡ printed read
  unfolding printed
  printed-is = ap fitted (lent_is r)

  pub all-printed : end < length old → length old ≤ text_room + 1 → (all : List ℕ) → Began most_read read all → take end new ≡ printed all
  all-printed h k all b =
      held w (has_room w h)
      ∙ sym (fits (shown_in read is cs ps) (omega (arith, as_long w (has_room w h))))
      ∙ printed-is
      ∙ of_read b

  pub none-printed : length old ≡ text_room + 1 → text_room < end → Refused read
  none-printed l h all b = sym (sym (too_long (shown_in read is cs ps) (no_room w l h)) ∙ printed-is ∙ of_read b)

pub refusal-printed : {read old new : List ℕ} {end : ℕ} → Wrote old 0 (answer_line (refusal no_room_for_text)) new end → 64 ≤ length old → Refused read
    → (all : List ℕ) → Began most_read read all → take end new ≡ printed all
refusal-printed w h refuses all b =
    held w (omega (arith, answer-short (refusal no_room_for_text) (omega arith) (omega arith) (omega arith) (omega arith)))
    ∙ sym (refuses all b)
