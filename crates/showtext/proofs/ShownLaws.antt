-- What is shown, as the code writes it: a character, a unit of UTF-16, bytes, a value by its mark.
use Prim.Native.Nat.{ℕ, ◌<◌, ◌≤◌, min}
use native.Mathlib.Omega.{arith}
use mathlib.Core.Path.{◌≡◌, refl, sym, ap, ◌∙◌}
use mathlib.Core.Bool.{true, false}
use mathlib.Core.List.{List, [], ◌++◌}
use borrow.Author.Tests.{lt-ltb, le-ltb, lt-leb, le-leb, eq-eqb, ne_eqb}
use lib.Dec.{eqb}
use lib.ListN.{get_or}
use Rattle.rules.specs.Lists.{text}
use Rattle.rules.specs.Bytes.{part}
use Rattle.rules.specs.Digits.{hex}
use Rattle.rules.specs.Scalars.{scalars}
use Rattle.rules.specs.Utf8.{utf8_of}
use Rattle.rules.specs.Csv.{hex_text}
use Rattle.text.specs.Writer.{Wrote}
use Rattle.text.proofs.Chain.{wrote_as}
use Rattle.csvtext.proofs.Spelling.{spelled_from}
use Rattle.showtext.specs.Shown.{within, is_turning, is_hidden, written, spelled, letters, most_shown, cut_mark, first_bytes, loose_text, shown_values, value_by}

-- ---- what is hidden
module _ (c : ℕ) where
  inside : (a b : ℕ) → a ≤ c → c ≤ b → within a b c ≡ true
  unfolding within
  inside a b h k = rw (le-leb a c h, le-leb c b k)

  under : (a b : ℕ) → c < a → within a b c ≡ false
  unfolding within
  under a b h = rw (lt-leb a c h)

  over : (a b : ℕ) → a ≤ c → b < c → within a b c ≡ false
  unfolding within
  over a b h k = rw (le-leb a c h, lt-leb c b k)

  pub before-marks : c < 0x200E → false ≡ is_turning c
  unfolding is_turning
  before-marks h = rw (under 0x200E 0x200F h, under 0x2028 0x202E (omega arith), under 0x2066 0x2069 (omega arith), ne_eqb c 0xFEFF (λ e. omega arith))

  pub a_mark : 0x200E ≤ c → c ≤ 0x200F → true ≡ is_turning c
  unfolding is_turning
  a_mark h k = rw (inside 0x200E 0x200F h k)

  module _ (h : 0x200F < c) where
    pub before_breaks : c < 0x2028 → false ≡ is_turning c
    unfolding is_turning
    before_breaks k = rw (over 0x200E 0x200F (omega arith) h, under 0x2028 0x202E k, under 0x2066 0x2069 (omega arith), ne_eqb c 0xFEFF (λ e. omega arith))

    pub a_break : 0x2028 ≤ c → c ≤ 0x202E → true ≡ is_turning c
    unfolding is_turning
    a_break k l = rw (over 0x200E 0x200F (omega arith) h, inside 0x2028 0x202E k l)

  module _ (h : 0x202E < c) where
    pub before_isolates : c < 0x2066 → false ≡ is_turning c
    unfolding is_turning
    before_isolates k =
        rw (over 0x200E 0x200F (omega arith) (omega arith), over 0x2028 0x202E (omega arith) h, under 0x2066 0x2069 k, ne_eqb c 0xFEFF (λ e. omega arith))

    pub an_isolate : 0x2066 ≤ c → c ≤ 0x2069 → true ≡ is_turning c
    unfolding is_turning
    an_isolate k l = rw (over 0x200E 0x200F (omega arith) (omega arith), over 0x2028 0x202E (omega arith) h, inside 0x2066 0x2069 k l)

  pub after_isolates : 0x2069 < c → eqb c 0xFEFF ≡ is_turning c
  unfolding is_turning
  after_isolates h =
      rw (over 0x200E 0x200F (omega arith) (omega arith), over 0x2028 0x202E (omega arith) (omega arith), over 0x2066 0x2069 (omega arith) h)

  pub below_blank : c < 0x20 → true ≡ is_hidden c
  unfolding is_hidden
  below_blank h = rw (inside 0x00 0x1F (omega arith) (omega arith))

  module _ (h : 0x20 ≤ c) where
    first-over : within 0x00 0x1F c ≡ false
    first-over = over 0x00 0x1F (omega arith) (omega arith)

    pub a_sign : c < 0x7F → false ≡ is_hidden c
    unfolding is_hidden
    a_sign k = rw (first-over, under 0x7F 0x9F k, ne_eqb c 0x061C (λ e. omega arith)) (before-marks (omega arith))

    pub delete_on : 0x7F ≤ c → c ≤ 0x9F → true ≡ is_hidden c
    unfolding is_hidden
    delete_on k l = rw (first-over, inside 0x7F 0x9F k l)

    pub a_letter-mark : 0x9F < c → c ≡ 0x061C → true ≡ is_hidden c
    unfolding is_hidden
    a_letter-mark k e = rw (first-over, over 0x7F 0x9F (omega arith) k, eq-eqb c 0x061C e)

    pub after-controls : 0x9F < c → ¬ (c ≡ 0x061C) → is_turning c ≡ is_hidden c
    unfolding is_hidden
    after-controls k n = rw (first-over, over 0x7F 0x9F (omega arith) k, ne_eqb c 0x061C n)

-- ---- a character
module _ (c : ℕ) where
  pub hidden : is_hidden c ≡ true → written c ≡ text "\\u" ++ hex 4 c
  unfolding written
  hidden e = rw e

  pub plain : is_hidden c ≡ false → written c ≡ utf8_of c
  unfolding written
  plain e = rw e

-- the characters that have names
pub named : (k : ℕ) (t : List ℕ) → spelled k ≡ t → {o n : List ℕ} {a r c : ℕ} → c ≡ k → Wrote o a t n r → Wrote o a (spelled c) n r
named k t e q w = wrote_as w (sym e ∙ sym (ap spelled q))

pub quote-named : spelled 0x22 ≡ text "\\\""
unfolding spelled
quote-named = refl

pub backslash_named : spelled 0x5C ≡ text "\\\\"
unfolding spelled
backslash_named = refl

pub feed_named : spelled 0x0A ≡ text "\\n"
unfolding spelled
feed_named = refl

pub return_named : spelled 0x0D ≡ text "\\r"
unfolding spelled
return_named = refl

pub tab_named : spelled 0x09 ≡ text "\\t"
unfolding spelled
tab_named = refl

-- none of them, as the last arm of a match knows it
abbrev Unnamed : ℕ → Type 0
Unnamed c = ((((Unit {0} × (c ≡ 0x22 → ⊥)) × (c ≡ 0x5C → ⊥)) × (c ≡ 0x0A → ⊥)) × (c ≡ 0x0D → ⊥)) × (c ≡ 0x09 → ⊥)

pub other : (c : ℕ) → Unnamed c → spelled c ≡ written c
unfolding spelled
other c (((((_, p), q), r), s), t) = rw (ne_eqb c 0x22 p, ne_eqb c 0x5C q, ne_eqb c 0x0A r, ne_eqb c 0x0D s, ne_eqb c 0x09 t)

-- ---- a text
pub letters-all : (s : List ℕ) → spelled_from spelled 0 s ≡ letters s
unfolding spelled_from letters scalars
letters-all s = refl

-- ---- bytes
module _ (size : ℕ) where
  pub is_cut : most_shown < size → cut_mark size ≡ text " .."
  unfolding cut_mark
  is_cut h = rw (lt-ltb most_shown size h)

  pub is_whole : size ≤ most_shown → cut_mark size ≡ []
  unfolding cut_mark
  is_whole h = rw (le-ltb most_shown size h)

  module _ (stream : List ℕ) (start : ℕ) where
    pub no_bytes : size ≡ 0 → first_bytes stream start size ≡ []
    unfolding first_bytes
    no_bytes e = rw (eq-eqb size 0 e)

    pub some_bytes : (size ≡ 0 → ⊥) → first_bytes stream start size ≡ text " " ++ (hex_text (part stream start (min size most_shown)) ++ cut_mark size)
    unfolding first_bytes
    some_bytes e = rw (ne_eqb size 0 e)

-- ---- a value, in an arm of the code by its number
module _ {o n : List ℕ} {a r m : ℕ} (k : ℕ) (e : m ≡ k) where
  pub a_value : (stream : List ℕ) (low high start size : ℕ) → Wrote o a (get_or (shown_values stream low high start size) k (loose_text stream start size)) n r
      → Wrote o a (value_by stream m low high start size) n r
  unfolding value_by
  a_value stream low high start size w = rw e w
