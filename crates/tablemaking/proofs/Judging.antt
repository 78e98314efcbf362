-- Judging, one test and one line at a time.
use Prim.Native.Nat.{ℕ, ◌+◌, ◌≤◌, ◌<◌}
use native.Mathlib.Omega.{arith}
use mathlib.Core.Path.{◌≡◌, refl, ap}
use mathlib.Core.Bool.{Bool, true, false, cond}
use mathlib.Core.List.{List, []}
use borrow.Author.Tests.{lt-ltb, le-ltb, eq-eqb, ne_eqb}
use lib.ListN.{length, drop, drop_of_length-le}
use Rattle.tablelines.specs.Faults.{no_layout, layout_first, layout_twice, header_late, header_order, many_headers, scope_order, many_scopes, row_early, id_order, id_high, target_high}
use Rattle.std.proofs.Common.{Option, Some, None}
use Rattle.std.specs.Option.{is_some}
use Rattle.tablelines.specs.Faults.{number_lem}
use Rattle.tablelines.specs.declared.faults.Fault.{Fault}
use Rattle.tablelines.specs.declared.faults.Fault.TheVariants.{NoLayout, LayoutFirst, LayoutTwice, UnknownWord, TwoDigits, FourDigits, ManyWords, UnknownKind, HeaderLate, HeaderOrder, ManyHeaders, ScopeOrder, ManyScopes, RowEarly, IdOrder, IdHigh, TargetHigh, LongText, NoRoom}
use Rattle.tablelines.specs.Words.{lines_of}
use Rattle.tablelines.specs.Items.{items_of, said, LineAt}
use Rattle.tablelines.specs.Items.{Item}
use Rattle.tablelines.specs.Items.{Nothing, Layout, Header, Scope, Row, Bad}
use Rattle.tablelines.specs.declared.Line.{Line}
use Rattle.tablemaking.specs.Judged.{after, header_fault, scope_fault, row_fault, below_layout, layout_fault, fault_of, on_layout, broken, kept, judge_end, judge_from}
use Rattle.tablemaking.specs.declared.Seen.{Seen}

-- ---- a header code
module _ (seen : Seen) (code : ℕ) where
  pub late : 0 < seen.scopes → header_fault seen code ≡ header_late
  unfolding header_fault
  late h = rw (lt-ltb 0 seen.scopes h)

  module _ (h : seen.scopes ≤ 0) where
    pub header-low : code < seen.least_header → header_fault seen code ≡ header_order
    unfolding header_fault
    header-low g = rw (le-ltb 0 seen.scopes h, lt-ltb code seen.least_header g)

    module _ (g : seen.least_header ≤ code) where
      pub header-many : 3 < seen.headers → header_fault seen code ≡ many_headers
      unfolding header_fault
      header-many k = rw (le-ltb 0 seen.scopes h, le-ltb code seen.least_header g, lt-ltb 3 seen.headers k)

      pub header-kept : seen.headers ≤ 3 → header_fault seen code ≡ 0
      unfolding header_fault
      header-kept k = rw (le-ltb 0 seen.scopes h, le-ltb code seen.least_header g, le-ltb 3 seen.headers k)

-- ---- a scope
module _ (seen : Seen) (key : ℕ) where
  pub scope-low : key < seen.least_key → scope_fault seen key ≡ scope_order
  unfolding scope_fault
  scope-low h = rw (lt-ltb key seen.least_key h)

  module _ (h : seen.least_key ≤ key) where
    pub scope-many : 63 < seen.scopes → scope_fault seen key ≡ many_scopes
    unfolding scope_fault
    scope-many g = rw (le-ltb key seen.least_key h, lt-ltb 63 seen.scopes g)

    pub scope_kept : seen.scopes ≤ 63 → scope_fault seen key ≡ 0
    unfolding scope_fault
    scope_kept g = rw (le-ltb key seen.least_key h, le-ltb 63 seen.scopes g)

-- ---- a row
module _ (seen : Seen) (id target : ℕ) where
  pub early : seen.scopes ≡ 0 → row_fault seen id target ≡ row_early
  unfolding row_fault
  early e = rw (eq-eqb seen.scopes 0 e)

  module _ (n : seen.scopes ≡ 0 → ⊥) where
    pub high : 0xFC < id → row_fault seen id target ≡ id_high
    unfolding row_fault
    high h = rw (ne_eqb seen.scopes 0 n, lt-ltb 0xFC id h)

    module _ (h : id ≤ 0xFC) where
      pub row_low : id < seen.least_id → row_fault seen id target ≡ id_order
      unfolding row_fault
      row_low g = rw (ne_eqb seen.scopes 0 n, le-ltb 0xFC id h, lt-ltb id seen.least_id g)

      module _ (g : seen.least_id ≤ id) where
        pub target-high : 0x7FFF < target → row_fault seen id target ≡ target_high
        unfolding row_fault
        target-high k = rw (ne_eqb seen.scopes 0 n, le-ltb 0xFC id h, le-ltb id seen.least_id g, lt-ltb 0x7FFF target k)

        pub row_kept : target ≤ 0x7FFF → row_fault seen id target ≡ 0
        unfolding row_fault
        row_kept k = rw (ne_eqb seen.scopes 0 n, le-ltb 0xFC id h, le-ltb id seen.least_id g, le-ltb 0x7FFF target k)

-- ---- the layout
unnamed_by : (o : Option ℕ) → is_some o ≡ false → o ≡ None
unnamed_by None e = refl
unnamed_by (Some byte) e = let z : ◌≡◌ {A = ℕ} 1 0 = ap (λ (b : Bool). cond b 1 0) e in absurd (omega arith)

module _ {A : Type 0} (x : A) (f : ℕ → A) where
  on_none : (o : Option ℕ) → is_some o ≡ false → on_layout o x f ≡ x
  on_none o e = ap (λ (o : Option ℕ). on_layout o x f) (unnamed_by o e)

on_some : {A : Type 0} (x y : A) (o : Option ℕ) → is_some o ≡ true → on_layout o x (λ byte. y) ≡ y
on_some x y None e = let z : ◌≡◌ {A = ℕ} 0 1 = ap (λ (b : Bool). cond b 1 0) e in absurd (omega arith)
on_some x y (Some byte) e = refl

module _ (seen : Seen) where
  pub not_named : (fault : ℕ) → is_some seen.layout ≡ false → below_layout seen fault ≡ layout_first
  unfolding below_layout
  not_named fault e = on_none _ _ seen.layout e

  pub is-named : (fault : ℕ) → is_some seen.layout ≡ true → below_layout seen fault ≡ fault
  unfolding below_layout
  is-named fault e = on_some _ _ seen.layout e

  pub first-layout : is_some seen.layout ≡ false → layout_fault seen ≡ 0
  unfolding layout_fault
  first-layout e = on_none _ _ seen.layout e

  pub second-layout : is_some seen.layout ≡ true → layout_fault seen ≡ layout_twice
  unfolding layout_fault
  second-layout e = on_some _ _ seen.layout e

  pub no-layout : (lines : ℕ) → seen.layout ≡ None → judge_end seen lines ≡ broken no_layout (lines + 1)
  unfolding judge_end
  no-layout lines e = rw e

  pub all-kept : (lines : ℕ) {byte : ℕ} → seen.layout ≡ Some byte → judge_end seen lines ≡ kept seen byte
  unfolding judge_end
  all-kept lines e = rw e

-- ---- the rows are no more than the lines
pub rows-after : (seen : Seen) (item : Item) → (after seen item).rows ≤ seen.rows + 1
unfolding after
rows-after seen Nothing = omega arith
rows-after seen (Layout byte) = omega arith
rows-after seen (Header code) = omega arith
rows-after seen (Scope kind code) = omega arith
rows-after seen (Row id target kind) = omega arith
rows-after seen (Bad error) = omega arith

-- ---- a fault has a number
pub numbered : (fault : Fault) → number_lem fault ≡ 0 → ⊥
numbered NoLayout e = omega arith
numbered LayoutFirst e = omega arith
numbered LayoutTwice e = omega arith
numbered UnknownWord e = omega arith
numbered TwoDigits e = omega arith
numbered FourDigits e = omega arith
numbered ManyWords e = omega arith
numbered UnknownKind e = omega arith
numbered HeaderLate e = omega arith
numbered HeaderOrder e = omega arith
numbered ManyHeaders e = omega arith
numbered ScopeOrder e = omega arith
numbered ManyScopes e = omega arith
numbered RowEarly e = omega arith
numbered IdOrder e = omega arith
numbered IdHigh e = omega arith
numbered TargetHigh e = omega arith
numbered LongText e = omega arith
numbered NoRoom e = omega arith

-- ---- a line
pub no_items : (s : List ℕ) (at : ℕ) → length s ≤ at → items_of (drop at s) ≡ []
unfolding items_of lines_of
no_items s at h = rw (drop_of_length-le s h)

pub judge_done : (s : List ℕ) (at : ℕ) (seen : Seen) (lines : ℕ) → length s ≤ at → judge_from seen lines (items_of (drop at s)) ≡ judge_end seen lines
unfolding judge_from
judge_done s at seen lines h = rw (no_items s at h)

module _ {s : List ℕ} {at : ℕ} {line : Line} (seen : Seen) (lines : ℕ) (l : LineAt s at line) {fault : ℕ} (f : fault ≡ fault_of seen (said line.item)) where
  pub fault_found : (fault ≡ 0 → ⊥) → judge_from seen lines (items_of (drop at s)) ≡ broken fault (lines + 1)
  unfolding judge_from
  fault_found n = rw (l.is, ← f, ne_eqb fault 0 n)

  pub no_fault : fault ≡ 0 → judge_from seen lines (items_of (drop at s)) ≡ judge_from (after seen (said line.item)) (lines + 1) (items_of (drop line.next s))
  unfolding judge_from
  no_fault e = rw (l.is, ← f, eq-eqb fault 0 e)
