-- The item of a line's words, one test at a time.
use Prim.Native.Nat.{ℕ, ◌+◌, ◌≤◌, ◌<◌}
use native.Mathlib.Omega.{arith}
use mathlib.Core.Path.{◌≡◌, refl, sym, ap, ◌∙◌}
use mathlib.Core.Bool.{Bool, true, false, cond}
use mathlib.Core.List.{List, [], ◌∷◌}
use borrow.Author.Tests.{lt-ltb, le-ltb, ltb-true, ltb-false, eq-eqb, ne_eqb, eqb-true, eqb-false}
use lib.Dec.{ltb, eqb}
use lib.ListN.{length}
use Rattle.rules.specs.Lists.{text, same}
use Rattle.tablelines.specs.Faults.{unknown_word, four_digits, many_words, unknown_kind, number_lem}
use Rattle.tablelines.specs.Words.{two_of, four_of, row_kind_of}
use Rattle.tablelines.specs.Items.{Item, Nothing, Scope, Row, Bad, number_fault, unless, plain_scope_item, row_item, item_by, layout_item, header_item, entry_item, below, or_fault, lone}
use Rattle.std.proofs.Common.{Option, None, Result, Ok, Err, ok_or}
use Rattle.std.specs.Result.{IsErrAnd}
use Rattle.std.proofs.lemmas.Result.{err_from_is_err_and}
use Rattle.tablelines.specs.declared.faults.Fault.{Fault}

-- what a test was told of its answer
pub told : {answer wanted known : Bool} → answer ≡ wanted → answer ≡ known → wanted ≡ known
told e q = sym e ∙ q

-- ---- a test for what is empty
pub no_more : (s : List ℕ) {answer : Bool} → answer ≡ eqb (length s) 0 → answer ≡ true → length s ≤ 0
no_more s e q = let z = eqb-true (length s) 0 (sym e ∙ q) in omega arith

pub some_more : (s : List ℕ) {answer : Bool} → answer ≡ eqb (length s) 0 → answer ≡ false → 0 < length s
some_more s e q = let z = eqb-false (length s) 0 (sym e ∙ q) in omega arith

-- ---- kinds
module _ (w : List ℕ) where
  pub a_number : same w (text "number") ≡ true → row_kind_of w ≡ 0
  unfolding row_kind_of
  a_number e = rw e

  module _ (n : same w (text "number") ≡ false) where
    pub a_text : same w (text "text") ≡ true → row_kind_of w ≡ 1
    unfolding row_kind_of
    a_text e = rw (n, e)

    module _ (t : same w (text "text") ≡ false) where
      pub a_guid : same w (text "guid") ≡ true → row_kind_of w ≡ 2
      unfolding row_kind_of
      a_guid e = rw (n, t, e)

      module _ (g : same w (text "guid") ≡ false) where
        pub a_double : same w (text "double") ≡ true → row_kind_of w ≡ 3
        unfolding row_kind_of
        a_double e = rw (n, t, g, e)

        pub some_bytes : same w (text "double") ≡ false → same w (text "bytes") ≡ true → row_kind_of w ≡ 4
        unfolding row_kind_of
        some_bytes d e = rw (n, t, g, d, e)

        pub no_kind : same w (text "double") ≡ false → same w (text "bytes") ≡ false → row_kind_of w ≡ 5
        unfolding row_kind_of
        no_kind d e = rw (n, t, g, d, e)

-- ---- a line of one number
module _ (number most digits : ℕ) (third : List ℕ) where
  pub number_more : 0 < length third → number_fault number most digits third ≡ many_words
  unfolding number_fault
  number_more h = rw (lt-ltb 0 (length third) h)

  module _ (h : length third ≤ 0) where
    pub number-high : most < number → number_fault number most digits third ≡ digits
    unfolding number_fault
    number-high g = rw (le-ltb 0 (length third) h, lt-ltb most number g)

    pub number-taken : number ≤ most → number_fault number most digits third ≡ 0
    unfolding number_fault
    number-taken g = rw (le-ltb 0 (length third) h, le-ltb most number g)

  -- a number without a fault isn't above the most
  fits_by : (a b : Bool) → ltb most number ≡ b → (digits ≡ 0 → ⊥) → cond a many_words (cond b digits 0) ≡ 0 → number ≤ most
  fits_by true b q d e = absurd (omega arith)
  fits_by false true q d e = absurd (d e)
  fits_by false false q d e = ltb-false most number q

  pub number_fits : (digits ≡ 0 → ⊥) → number_fault number most digits third ≡ 0 → number ≤ most
  unfolding number_fault
  number_fits d e = fits_by (ltb 0 (length third)) (ltb most number) refl d e

-- a line of one number as the code has it
abbrev pub as_line : (ℕ → Item) → Result ℕ Fault → Item
as_line make (Ok n) = make n
as_line make (Err fault) = Bad (number_lem fault)

module _ (make : ℕ → Item) (most n : ℕ) (digits : Fault) (d : number_lem digits ≡ 0 → ⊥) where
  alone_by : (t : Bool) → ltb most n ≡ t → as_line make (or_fault (below (most + 1) n) digits) ≡ unless (cond t (number_lem digits) 0) (make n)
  unfolding unless
  alone_by true q = let h = ltb-true most n q in rw (le-ltb n (most + 1) (omega arith), ne_eqb (number_lem digits) 0 d)
  alone_by false q = let h = ltb-false most n q in rw (lt-ltb n (most + 1) (omega arith))

  number_line : (third : List ℕ) → as_line make (lone (below (most + 1) n) third digits) ≡ unless (number_fault n most (number_lem digits) third) (make n)
  unfolding number_fault unless
  number_line [] = alone_by (ltb most n) refl
  number_line (x ∷ third) = rw (lt-ltb 0 (length (x ∷ third)) (omega arith), ne_eqb (length (x ∷ third)) 0 (λ e. omega arith))

pub one_number : (make : ℕ → Item) (most n : ℕ) (digits : Fault) (third : List ℕ) {read : Option ℕ} {r : Result ℕ Fault} → (number_lem digits ≡ 0 → ⊥) → read ≡ below (most + 1) n → r ≡ lone read third digits
    → as_line make r ≡ unless (number_fault n most (number_lem digits) third) (make n)
one_number make most n digits third d e q = ap (as_line make) (q ∙ ap (λ (o : Option ℕ). lone o third digits) e) ∙ number_line make most n digits d third

-- ---- what a `?` hands on
pub raised : {A : Type 0} (r : Result A Fault) (fault : Fault) → IsErrAnd r (λ e. e ≡ fault) → r ≡ Err fault
raised r fault h = let p = err_from_is_err_and r h in p.1 ∙ ap Err p.2

abbrev fault_or : {A : Type 0} → Fault → Result A Fault → Fault
fault_or other (Ok x) = other
fault_or other (Err fault) = fault

-- the fault of what is missing
pub missed : {A : Type 0} (o : Option A) {fault named : Fault} → Err fault ≡ ok_or o named → o ≡ None → fault ≡ named
missed o {fault} {named} e n = ap (fault_or named) (e ∙ ap (λ o. ok_or o named) n)

-- ---- a form, a report
pub scope-more : (kind : ℕ) (second : List ℕ) → 0 < length second → plain_scope_item kind second ≡ Bad many_words
unfolding plain_scope_item
scope-more kind second h = rw (lt-ltb 0 (length second) h)

pub a_scope : (kind : ℕ) (second : List ℕ) → length second ≤ 0 → plain_scope_item kind second ≡ Scope kind 0
unfolding plain_scope_item
a_scope kind second h = rw (le-ltb 0 (length second) h)

-- ---- a row
module _ (first second third : List ℕ) (more : Bool) where
  pub no-id : 255 < two_of first → row_item first second third more ≡ Bad unknown_word
  unfolding row_item
  no-id h = rw (lt-ltb 255 (two_of first) h)

  module _ (h : two_of first ≤ 255) where
    pub row_more : more ≡ true → row_item first second third more ≡ Bad many_words
    unfolding row_item
    row_more e = rw (le-ltb 255 (two_of first) h, e)

    module _ (e : more ≡ false) where
      pub no_target : 65535 < four_of second → row_item first second third more ≡ Bad four_digits
      unfolding row_item
      no_target g = rw (le-ltb 255 (two_of first) h, e, lt-ltb 65535 (four_of second) g)

      module _ (g : four_of second ≤ 65535) where
        pub row-kind : 4 < row_kind_of third → row_item first second third more ≡ Bad unknown_kind
        unfolding row_item
        row-kind k = rw (le-ltb 255 (two_of first) h, e, le-ltb 65535 (four_of second) g, lt-ltb 4 (row_kind_of third) k)

        pub a_row : row_kind_of third ≤ 4 → row_item first second third more ≡ Row (two_of first) (four_of second) (row_kind_of third)
        unfolding row_item
        a_row k = rw (le-ltb 255 (two_of first) h, e, le-ltb 65535 (four_of second) g, le-ltb 4 (row_kind_of third) k)

-- ---- what a line is
module _ (first second third : List ℕ) (more : Bool) where
  pub of_nothing : length first ≡ 0 → item_by first second third more ≡ Nothing
  unfolding item_by
  of_nothing e = rw (eq-eqb (length first) 0 e)

  module _ (n : length first ≡ 0 → ⊥) where
    pub of_layout : same first (text "layout") ≡ true → item_by first second third more ≡ layout_item second third
    unfolding item_by
    of_layout e = rw (ne_eqb (length first) 0 n, e)

    module _ (l : same first (text "layout") ≡ false) where
      pub of_header : same first (text "header") ≡ true → item_by first second third more ≡ header_item second third
      unfolding item_by
      of_header e = rw (ne_eqb (length first) 0 n, l, e)

      module _ (h : same first (text "header") ≡ false) where
        pub of_form : same first (text "form") ≡ true → item_by first second third more ≡ plain_scope_item 0 second
        unfolding item_by
        of_form e = rw (ne_eqb (length first) 0 n, l, h, e)

        module _ (f : same first (text "form") ≡ false) where
          pub of_report : same first (text "report") ≡ true → item_by first second third more ≡ plain_scope_item 1 second
          unfolding item_by
          of_report e = rw (ne_eqb (length first) 0 n, l, h, f, e)

          module _ (r : same first (text "report") ≡ false) where
            pub of_entry : same first (text "entry") ≡ true → item_by first second third more ≡ entry_item second third
            unfolding item_by
            of_entry e = rw (ne_eqb (length first) 0 n, l, h, f, r, e)

            pub of_row : same first (text "entry") ≡ false → item_by first second third more ≡ row_item first second third more
            unfolding item_by
            of_row e = rw (ne_eqb (length first) 0 n, l, h, f, r, e)
