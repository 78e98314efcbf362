-- A table's text read again: its lines, the words of each, and the numbers that they say.
use Prim.Native.Nat.{ℕ, zero, suc, ◌+◌, ◌*◌, ◌-◌, ◌/◌, ◌%◌, ◌≤◌, ◌<◌}
use native.Mathlib.Omega.{arith}
use mathlib.Core.Path.{◌≡◌, refl, sym, ap, ◌∙◌}
use mathlib.Core.Bool.{Bool, true, false, cond, not, ◌||◌}
use mathlib.Core.List.{List, [], ◌∷◌, ◌++◌, append_assoc}
use mathlib.Core.Logic.{◌⊎◌, inl, inr}
use mathlib.Core.Option.{Option, none, some}
use Prim.Native.String.{String}
use lib.Dec.{leb, ltb, eqb}
use lib.ListN.{length}
use borrow.Author.Tests.{ltb-true, ltb-false, le-leb, lt-leb, lt-ltb, le-ltb, ne_eqb, not-true}
use Rattle.rules.specs.Lists.{all, find, same, text}
use Rattle.rules.specs.Digits.{digit, hex}
use Rattle.rules.specs.NameTables.{Table, text_names, number_names, bytes_names, control_type_names}
use Rattle.rules.specs.Names.{has_id, name_text, name_in_lem, names_for}
use Rattle.rules.specs.CodeTable.{Tie}
use Rattle.rules.proofs.ListLaws.{and_l, and_r, all_there, found-there}
use Rattle.tabletext.specs.Text.{remark, kind_word, kind_mark, row_line, scope_name, type_remark, scope_line, header_line}
use Rattle.tablelines.specs.Words.{onto, lines_of, line_end, sign, letter, blank, is_blank, stops, before, onward, word, after_word, digit_of, byte_of, two_of, four_of, row_kind_of}
use Rattle.tablelines.proofs.WordLaws.{Digit, other_length, a_byte, a_code}
use Rattle.tablelines.specs.Items.{item_of, item_in, item_by, items_of, number_fault, unless, layout_item, header_item, plain_scope_item, entry_item, row_item}
use Rattle.tablelines.specs.Items.{Item}
use Rattle.tablelines.specs.Items.{Nothing, Layout, Header, Scope as ScopeLine, Row}

-- ---- what a search skips
abbrev pub passes : ℕ → List ℕ → Bool
passes search s = all (λ b. not (stops search b)) s

pub passes_append : (search : ℕ) (xs ys : List ℕ) → passes search xs ≡ true → passes search ys ≡ true → passes search (xs ++ ys) ≡ true
unfolding all
passes_append search [] ys p q = q
passes_append search (x ∷ xs) ys p q = rw (and_l (not (stops search x)) (passes search xs) p) (passes_append search xs ys (and_r (not (stops search x)) (passes search xs) p) q)

module _ (search : ℕ) where
  pub before_passed : (xs ys : List ℕ) → passes search xs ≡ true → before search (xs ++ ys) ≡ xs ++ before search ys
  unfolding before all
  before_passed [] ys p = refl
  before_passed (x ∷ xs) ys p =
      rw (not-true (stops search x) (and_l (not (stops search x)) (passes search xs) p))
      (ap (λ l. x ∷ l) (before_passed xs ys (and_r (not (stops search x)) (passes search xs) p)))

  pub onward_passed : (xs ys : List ℕ) → passes search xs ≡ true → onward search (xs ++ ys) ≡ onward search ys
  unfolding onward all
  onward_passed [] ys p = refl
  onward_passed (x ∷ xs) ys p =
      rw (not-true (stops search x) (and_l (not (stops search x)) (passes search xs) p)) (onward_passed xs ys (and_r (not (stops search x)) (passes search xs) p))

-- ---- lines
pub line_first : (line rest : List ℕ) → passes line_end line ≡ true → lines_of (line ++ 10 ∷ rest) ≡ line ∷ lines_of rest
unfolding lines_of onto all stops
line_first [] rest p = refl
line_first (b ∷ line) rest p =
    rw (not-true (eqb b 10) (and_l (not (eqb b 10)) (passes line_end line) p), line_first line rest (and_r (not (eqb b 10)) (passes line_end line) p))

pub items-first : (line rest : List ℕ) → passes line_end line ≡ true → items_of (line ++ 10 ∷ rest) ≡ item_of line ∷ items_of rest
unfolding items_of
items-first line rest p = rw (line_first line rest p)

-- what stands in the place of a line, and says an item
pub says : (line rest : List ℕ) (item : Item) (s : List ℕ) → s ≡ line ++ 10 ∷ rest → passes line_end line ≡ true → item_of line ≡ item → items_of s ≡ item ∷ items_of rest
says line rest item s e p i = ap items_of e ∙ items-first line rest p ∙ ap (λ x. x ∷ items_of rest) i

pub nothing_said : (rest : List ℕ) → items_of (10 ∷ rest) ≡ Nothing ∷ items_of rest
unfolding all item_of item_in item_by word after_word before onward
nothing_said rest = says [] rest Nothing (10 ∷ rest) refl refl refl

-- ---- words
before-to : (search : ℕ) (xs ys : List ℕ) → passes search xs ≡ true → before search ys ≡ [] → before search (xs ++ ys) ≡ xs
unfolding before all
before-to search [] ys p e = e
before-to search (x ∷ xs) ys p e =
    rw (not-true (stops search x) (and_l (not (stops search x)) (passes search xs) p))
    (ap (λ l. x ∷ l) (before-to search xs ys (and_r (not (stops search x)) (passes search xs) p) e))

-- it begins with a letter, and no search but that for letters stops in it
pub record IsWord (w : List ℕ) : Type 0 where
  pub starts : (rest : List ℕ) → onward letter (w ++ rest) ≡ w ++ rest
  pub letters : passes blank w ≡ true
  pub unsigned : passes sign w ≡ true
  pub plain : passes line_end w ≡ true

-- what ends a word
pub record Ends (rest : List ℕ) : Type 0 where
  pub cut : before blank rest ≡ []
  pub stays : onward blank rest ≡ rest

-- what stands after_word the last word
pub record Tail (t : List ℕ) : Type 0 where
  pub ends : Ends t
  pub no_word : word t ≡ []
  pub no_more : after_word t ≡ []

nil_tail : Tail []
unfolding word after_word before onward
nil_tail = record { ends = record { cut = refl; stays = refl }; no_word = refl; no_more = refl }

blank-ends : (s : List ℕ) → Ends (32 ∷ s)
unfolding before onward stops is_blank
blank-ends s = record { cut = refl; stays = refl }

blanks_tail : Tail (32 ∷ 32 ∷ [])
unfolding word after_word before onward stops is_blank
blanks_tail = record { ends = blank-ends (32 ∷ []); no_word = refl; no_more = refl }

remark_tail : (name : List ℕ) → Tail (before sign (remark name))
unfolding remark before stops
remark_tail [] = nil_tail
remark_tail (b ∷ name) = blanks_tail

remark-plain : (name : List ℕ) → passes line_end name ≡ true → passes line_end (remark name) ≡ true
unfolding remark all stops
remark-plain [] p = refl
remark-plain (b ∷ name) p = p

module _ (w rest : List ℕ) (W : IsWord w) (E : Ends rest) where
  word_first : word (w ++ rest) ≡ w
  unfolding word
  word_first = rw (W.starts rest) (before-to blank w rest W.letters E.cut)

  after_first : after_word (w ++ rest) ≡ rest
  unfolding after_word
  after_first = rw (W.starts rest) (onward_passed blank w rest W.letters ∙ E.stays)

  -- after a blank
  word_next : word (32 ∷ (w ++ rest)) ≡ w
  word_next = unfold word onward stops is_blank in word_first

  after_next : after_word (32 ∷ (w ++ rest)) ≡ rest
  after_next = unfold after_word onward stops is_blank in after_first

before-blank : (s : List ℕ) → before sign (32 ∷ s) ≡ 32 ∷ before sign s
unfolding before stops
before-blank s = refl

blank-plain : (s : List ℕ) → passes line_end s ≡ true → passes line_end (32 ∷ s) ≡ true
unfolding all stops
blank-plain s p = p

-- ---- lines of one, two and three words, and a name after_word them
module _ (a name rest : List ℕ) (A : IsWord a) (N : passes line_end name ≡ true) where
  abbrev tail : List ℕ
  tail = before sign (remark name)

  T : Tail tail
  T = remark_tail name

  one-item : item_of (a ++ remark name) ≡ item_by a [] [] false
  unfolding item_of item_in
  one-item =
      rw (before_passed sign a (remark name) A.unsigned, word_first a tail A T.ends, after_first a tail A T.ends, T.no_word, T.no_more, nil_tail.no_more, nil_tail.no_word)

  pub one_word : (s : List ℕ) (item : Item) → s ≡ (a ++ remark name) ++ 10 ∷ rest → item_by a [] [] false ≡ item → items_of s ≡ item ∷ items_of rest
  one_word s item e i = says (a ++ remark name) rest item s e (passes_append line_end a (remark name) A.plain (remark-plain name N)) (one-item ∙ i)

  module _ (b : List ℕ) (B : IsWord b) where
    abbrev line-two : List ℕ
    line-two = a ++ 32 ∷ (b ++ remark name)

    two-item : item_of line-two ≡ item_by a b [] false
    unfolding item_of item_in
    two-item =
        rw (
          before_passed sign a (32 ∷ (b ++ remark name)) A.unsigned,
          before-blank (b ++ remark name),
          before_passed sign b (remark name) B.unsigned,
          word_first a (32 ∷ (b ++ tail)) A (blank-ends (b ++ tail)),
          after_first a (32 ∷ (b ++ tail)) A (blank-ends (b ++ tail)),
          word_next b tail B T.ends,
          after_next b tail B T.ends,
          T.no_word,
          T.no_more,
          nil_tail.no_word,
        )

    pub two-words : (s : List ℕ) (item : Item) → s ≡ line-two ++ 10 ∷ rest → item_by a b [] false ≡ item → items_of s ≡ item ∷ items_of rest
    two-words s item e i =
        says line-two rest item s e
        (passes_append line_end a (32 ∷ (b ++ remark name)) A.plain (blank-plain (b ++ remark name) (passes_append line_end b (remark name) B.plain (remark-plain name N))))
        (two-item ∙ i)

    module _ (c : List ℕ) (C : IsWord c) where
      abbrev line-three : List ℕ
      line-three = a ++ 32 ∷ (b ++ 32 ∷ (c ++ remark name))

      three-item : item_of line-three ≡ item_by a b c false
      unfolding item_of item_in
      three-item =
          rw (
            before_passed sign a (32 ∷ (b ++ 32 ∷ (c ++ remark name))) A.unsigned,
            before-blank (b ++ 32 ∷ (c ++ remark name)),
            before_passed sign b (32 ∷ (c ++ remark name)) B.unsigned,
            before-blank (c ++ remark name),
            before_passed sign c (remark name) C.unsigned,
            word_first a (32 ∷ (b ++ 32 ∷ (c ++ tail))) A (blank-ends (b ++ 32 ∷ (c ++ tail))),
            after_first a (32 ∷ (b ++ 32 ∷ (c ++ tail))) A (blank-ends (b ++ 32 ∷ (c ++ tail))),
            word_next b (32 ∷ (c ++ tail)) B (blank-ends (c ++ tail)),
            after_next b (32 ∷ (c ++ tail)) B (blank-ends (c ++ tail)),
            word_next c tail C T.ends,
            after_next c tail C T.ends,
            T.no_word,
          )

      pub three-words : (s : List ℕ) (item : Item) → s ≡ line-three ++ 10 ∷ rest → item_by a b c false ≡ item → items_of s ≡ item ∷ items_of rest
      three-words s item e i =
          says line-three rest item s e
          (passes_append line_end a (32 ∷ (b ++ 32 ∷ (c ++ remark name))) A.plain
          (blank-plain (b ++ 32 ∷ (c ++ remark name))
          (passes_append line_end b (32 ∷ (c ++ remark name)) B.plain
          (blank-plain (c ++ remark name) (passes_append line_end c (remark name) C.plain (remark-plain name N))))))
          (three-item ∙ i)

-- ---- words of bytes above the sign #
abbrev high : ℕ → Bool
high b = ltb 35 b

high-passes : (search : ℕ) → ((b : ℕ) → 35 < b → stops search b ≡ false) → (w : List ℕ) → all high w ≡ true → passes search w ≡ true
unfolding all
high-passes search f [] e = refl
high-passes search f (b ∷ w) e = rw (f b (ltb-true 35 b (and_l (high b) (all high w) e))) (high-passes search f w (and_r (high b) (all high w) e))

not_blank : (b : ℕ) → 35 < b → is_blank b ≡ false
unfolding is_blank
not_blank b h = rw (ne_eqb b 32 (λ e. omega arith), ne_eqb b 9 (λ e. omega arith), ne_eqb b 13 (λ e. omega arith))

passes-blank : (b : ℕ) → 35 < b → stops blank b ≡ false
unfolding stops
passes-blank b h = not_blank b h

passes-sign : (b : ℕ) → 35 < b → stops sign b ≡ false
unfolding stops
passes-sign b h = ne_eqb b 35 (λ e. omega arith)

passes-end : (b : ℕ) → 35 < b → stops line_end b ≡ false
unfolding stops
passes-end b h = ne_eqb b 10 (λ e. omega arith)

starts-high : (b : ℕ) (s : List ℕ) → 35 < b → onward letter (b ∷ s) ≡ b ∷ s
unfolding onward stops
starts-high b s h = rw (not_blank b h)

pub high_word : (w : List ℕ) → ltb 0 (length w) ≡ true → all high w ≡ true → IsWord w
unfolding all
high_word [] l e = absurd (let z : ◌≡◌ {A = ℕ} 0 1 = cc in omega arith)
high_word (b ∷ w) l e = record {
  starts = λ rest. starts-high b (w ++ rest) (ltb-true 35 b (and_l (high b) (all high w) e));
  letters = high-passes blank passes-blank (b ∷ w) e;
  unsigned = high-passes sign passes-sign (b ∷ w) e;
  plain = high-passes line_end passes-end (b ∷ w) e;
}

-- ---- hex digits
digit-high : (n : ℕ) → high (digit n) ≡ true
unfolding digit
digit-high n = go (ltb n 10)
  where
    go : (b : Bool) → ltb 35 (cond b (48 + n) (55 + n)) ≡ true
    go true = lt-ltb 35 (48 + n) (omega arith)
    go false = lt-ltb 35 (55 + n) (omega arith)

digit_value : (n : ℕ) → n < 16 → digit_of (digit n) ≡ n
unfolding digit digit_of
digit_value n h = go (ltb n 10) refl
  where
    go : (b : Bool) → ltb n 10 ≡ b → digit_of (cond b (48 + n) (55 + n)) ≡ n
    go true q =
        let l = ltb-true n 10 q in
        let e : 48 + n - 48 ≡ n = omega arith in
        rw (le-leb 48 (48 + n) (omega arith), le-leb (48 + n) 57 (omega arith)) e
    go false q =
        let l = ltb-false n 10 q in
        let e : 55 + n - 55 ≡ n = omega arith in
        rw (le-leb 48 (55 + n) (omega arith), lt-leb (55 + n) 57 (omega arith), le-leb 65 (55 + n) (omega arith), le-leb (55 + n) 70 (omega arith)) e

read_back : (n : ℕ) → n < 16 → Digit (digit n) n
read_back n h = record { is = sym (digit_value n h); small = omega arith }

digits_back : (m n : ℕ) → byte_of (digit (m % 16)) (digit (n % 16)) ≡ 16 * (m % 16) + n % 16
digits_back m n =
    let a : m % 16 < 16 = omega arith in
    let b : n % 16 < 16 = omega arith in
    a_byte (read_back (m % 16) a) (read_back (n % 16) b) (λ e. omega arith) (λ e. omega arith)

pub two_back : (n : ℕ) → n < 256 → two_of (hex 2 n) ≡ n
unfolding two_of hex
two_back n h = let e : 16 * (n / 16 % 16) + n % 16 ≡ n = omega arith in digits_back (n / 16) n ∙ e

four-sum : (n a b c : ℕ) → n < 65536 → a ≡ n / 16 → b ≡ a / 16 → c ≡ b / 16 → 256 * (16 * (c % 16) + b % 16) + (16 * (a % 16) + n % 16) ≡ n
four-sum n a b c h p q r = omega arith

pub four-back : (n : ℕ) → n < 65536 → four_of (hex 4 n) ≡ n
unfolding four_of hex
four-back n h =
    let a : ℕ = n / 16 in
    let b : ℕ = n / 16 / 16 in
    let c : ℕ = n / 16 / 16 / 16 in
    let x : 16 * (c % 16) + b % 16 < 256 = omega arith in
    let y : 16 * (a % 16) + n % 16 < 256 = omega arith in
    rw (digits_back (n / 16 / 16 / 16) (n / 16 / 16), digits_back (n / 16) n) (a_code (16 * (c % 16) + b % 16) (16 * (a % 16) + n % 16) x y ∙ four-sum n a b c h refl refl refl)

pub two-word : (n : ℕ) → IsWord (hex 2 n)
unfolding hex all
two-word n = high_word (hex 2 n) refl (rw (digit-high (n / 16 % 16), digit-high (n % 16)))

pub four-word : (n : ℕ) → IsWord (hex 4 n)
unfolding hex all
four-word n = high_word (hex 4 n) refl (rw (digit-high (n / 16 / 16 / 16 % 16), digit-high (n / 16 / 16 % 16), digit-high (n / 16 % 16), digit-high (n % 16)))

-- ---- the words of kinds
kind-word : (k : ℕ) → IsWord (kind_word k)
unfolding kind_word all
kind-word zero = high_word (text "number") refl refl
kind-word (suc zero) = high_word (text "text") refl refl
kind-word (suc (suc zero)) = high_word (text "guid") refl refl
kind-word (suc (suc (suc zero))) = high_word (text "double") refl refl
kind-word (suc (suc (suc (suc k)))) = high_word (text "bytes") refl refl

kind-back : (k : ℕ) → k ≤ 4 → row_kind_of (kind_word k) ≡ k
unfolding row_kind_of kind_word same
kind-back zero h = refl
kind-back (suc zero) h = refl
kind-back (suc (suc zero)) h = refl
kind-back (suc (suc (suc zero))) h = refl
kind-back (suc (suc (suc (suc zero)))) h = refl
kind-back (suc (suc (suc (suc (suc k))))) h = absurd (omega arith)

-- ---- a word of two digits is no other word
two-long : (n : ℕ) → length (hex 2 n) ≡ 2
unfolding hex
two-long n = refl

other_word : (n : ℕ) (w : List ℕ) → (length w ≡ 2 → ⊥) → same (hex 2 n) w ≡ false
other_word n w h = other_length (hex 2 n) w (λ e. h (sym e ∙ two-long n))

-- ---- what the words of a line say
layout-item : (x : ℕ) → x < 256 → item_by (text "layout") (hex 2 x) [] false ≡ Layout x
unfolding item_by number_fault unless layout_item same
layout-item x h = rw (two_back x h, le-ltb 255 x (omega arith))

header-item : (c : ℕ) → c < 65536 → item_by (text "header") (hex 4 c) [] false ≡ Header c
unfolding item_by number_fault unless header_item same
header-item c h = rw (four-back c h, le-ltb 65535 c (omega arith))

entry-item : (c : ℕ) → c < 65536 → item_by (text "entry") (hex 4 c) [] false ≡ ScopeLine 2 c
unfolding item_by number_fault unless entry_item same
entry-item c h = rw (four-back c h, le-ltb 65535 c (omega arith))

form_item : item_by (text "form") [] [] false ≡ ScopeLine 0 0
unfolding item_by plain_scope_item same
form_item = refl

report_item : item_by (text "report") [] [] false ≡ ScopeLine 1 0
unfolding item_by plain_scope_item same
report_item = refl

row-item : (id target kind : ℕ) → id < 256 → target < 65536 → kind ≤ 4 → item_by (hex 2 id) (hex 4 target) (kind_word kind) false ≡ Row id target kind
unfolding item_by row_item
row-item id target kind i t k =
    rw (
      two-long id,
      other_word id (text "layout") (λ e. omega arith),
      other_word id (text "header") (λ e. omega arith),
      other_word id (text "form") (λ e. omega arith),
      other_word id (text "report") (λ e. omega arith),
      other_word id (text "entry") (λ e. omega arith),
      two_back id i,
      four-back target t,
      kind-back kind k,
      le-ltb 255 id (omega arith),
      le-ltb 65535 target (omega arith),
      le-ltb 4 kind k,
    )

-- ---- names have no line's end in them
abbrev plain_row : ℕ × String → Bool
plain_row row = passes line_end (text row.1)

name-plain : (names : Table) → all plain_row names ≡ true → (id : ℕ) → passes line_end (name_in_lem names id) ≡ true
unfolding name_in_lem all
name-plain names h id = go (find (has_id id) names) refl
  where
    go : (o : Option (ℕ × String)) → find (has_id id) names ≡ o → passes line_end (name_text o) ≡ true
    go none q = refl
    go (some row) q = all_there plain_row names row h (found-there (has_id id) names row q).0

text-plain : all plain_row text_names ≡ true
unfolding text_names all stops
text-plain = refl

number-plain : all plain_row number_names ≡ true
unfolding number_names all stops
number-plain = refl

bytes-plain : all plain_row bytes_names ≡ true
unfolding bytes_names all stops
bytes-plain = refl

type-plain : all plain_row control_type_names ≡ true
unfolding control_type_names all stops
type-plain = refl

names-plain : (mark : ℕ) → all plain_row (names_for mark) ≡ true
unfolding names_for all
names-plain mark = go (leb mark 4) (eqb mark 6 || eqb mark 8) (eqb mark 5 || eqb mark 7)
  where
    go : (a b c : Bool) → all plain_row (cond a number_names (cond b text_names (cond c bytes_names []))) ≡ true
    go true b c = number-plain
    go false true c = text-plain
    go false false true = bytes-plain
    go false false false = refl

-- ---- the lines of a table's text
pub layout-said : (x : ℕ) (rest : List ℕ) → x < 256 → items_of (text "layout " ++ (hex 2 x ++ (text "\n" ++ rest))) ≡ Layout x ∷ items_of rest
unfolding remark hex all
layout-said x rest h = two-words (text "layout") [] rest (high_word (text "layout") refl refl) refl (hex 2 x) (two-word x) (text "layout " ++ (hex 2 x ++ (text "\n" ++ rest))) (Layout x) refl (layout-item x h)

pub header-said : (c : ℕ) (rest : List ℕ) → c < 65536 → items_of (header_line c ++ rest) ≡ Header c ∷ items_of rest
unfolding header_line remark hex all
header-said c rest h = two-words (text "header") [] rest (high_word (text "header") refl refl) refl (hex 4 c) (four-word c) (header_line c ++ rest) (Header c) refl (header-item c h)

pub row-said : (r : Tie) (rest : List ℕ) → r.id < 256 → r.target < 65536 → r.kind ≤ 4 → items_of (row_line r ++ rest) ≡ Row r.id r.target r.kind ∷ items_of rest
unfolding row_line
row-said r rest i t k =
    let mark : ℕ = kind_mark r.id r.kind in
    three-words (hex 2 r.id) (name_in_lem (names_for mark) r.target) rest (two-word r.id) (name-plain (names_for mark) (names-plain mark) r.target)
    (hex 4 r.target) (four-word r.target) (kind_word r.kind) (kind-word r.kind)
    (row_line r ++ rest) (Row r.id r.target r.kind) (simp append_assoc) (row-item r.id r.target r.kind i t k)

-- a line that says nothing, and the scope
pub form_said : (rest : List ℕ) → items_of (scope_line 0 0 ++ rest) ≡ Nothing ∷ ScopeLine 0 0 ∷ items_of rest
unfolding scope_line scope_name type_remark remark all
form_said rest =
    nothing_said (text "form\n" ++ rest)
    ∙ ap (λ l. Nothing ∷ l) (one_word (text "form") [] rest (high_word (text "form") refl refl) refl (text "form\n" ++ rest) (ScopeLine 0 0) refl form_item)

pub report_said : (rest : List ℕ) → items_of (scope_line 1 0 ++ rest) ≡ Nothing ∷ ScopeLine 1 0 ∷ items_of rest
unfolding scope_line scope_name type_remark remark all
report_said rest =
    nothing_said (text "report\n" ++ rest)
    ∙ ap (λ l. Nothing ∷ l) (one_word (text "report") [] rest (high_word (text "report") refl refl) refl (text "report\n" ++ rest) (ScopeLine 1 0) refl report_item)

pub entry-said : (c : ℕ) (rest : List ℕ) → c < 65536 → items_of (scope_line 2 c ++ rest) ≡ Nothing ∷ ScopeLine 2 c ∷ items_of rest
unfolding scope_line scope_name type_remark all
entry-said c rest h =
    let name : List ℕ = name_in_lem control_type_names c in
    let below : List ℕ = text "entry " ++ (hex 4 c ++ (remark name ++ 10 ∷ rest)) in
    let e : scope_line 2 c ++ rest ≡ 10 ∷ below = simp append_assoc in
    ap items_of e ∙ nothing_said below
    ∙ ap (λ l. Nothing ∷ l)
    (two-words (text "entry") name rest (high_word (text "entry") refl refl) (name-plain control_type_names type-plain c) (hex 4 c) (four-word c) below (ScopeLine 2 c) (simp append_assoc) (entry-item c h))

pub scope-said : (kind code : ℕ) (rest : List ℕ) → kind ≤ 2 → (kind ≡ 2) ⊎ (code ≡ 0) → code < 65536 → items_of (scope_line kind code ++ rest) ≡ Nothing ∷ ScopeLine kind code ∷ items_of rest
scope-said zero code rest k (inl e) c = absurd (omega arith)
scope-said zero code rest k (inr e) c = rw e (form_said rest)
scope-said (suc zero) code rest k (inl e) c = absurd (omega arith)
scope-said (suc zero) code rest k (inr e) c = rw e (report_said rest)
scope-said (suc (suc zero)) code rest k o c = entry-said code rest c
scope-said (suc (suc (suc n))) code rest k o c = absurd (omega arith)
