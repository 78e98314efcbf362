-- A property told by two look-ups: it differs where the older table doesn't tie its id and the newer does.
use Prim.Native.Nat.{ℕ, ◌+◌, ◌≤◌, ◌<◌}
use mathlib.Core.Path.{◌≡◌, refl, sym, ap, ◌∙◌}
use mathlib.Core.Bool.{false, cond}
use mathlib.Core.List.{List, [], ◌∷◌}
use mathlib.Core.Option.{none, some}
use mathlib.Core.Option as maybe
use Rattle.std.proofs.Common.{Option, Some, None}
use lib.Bits.{bit_or}
use lib.Dec.{ltb}
use borrow.Author.Tests.{lt-ltb, le-ltb}
use Rattle.rules.specs.Lists.{find}
use Rattle.rules.specs.CodeTable.{Tie, is_tied, row_of}
use Rattle.rules.specs.Access2000.{Prop}
use Rattle.rules.specs.Read2000.{ScopeKey, tied, shown, property_in, spot_in}
use Rattle.rules.specs.Differences.{differs, difference_row}
use Rattle.rules.specs.declared.Property.{Property}
use Rattle.rules.proofs.CodeTableLaws.{found-held, unmapped_large, target_small}
use Rattle.differlaws.proofs.DifferencesLaws.{learned, differs-learned}
use Rattle.rules.proofs.ToldLaws.{told_as_some, told_as_none}
use Rattle.coderows.specs.Look.{Sorted, body_rows, tie_of, as_row}
use Rattle.coderows.specs.declared.Tie as tied_row
use Rattle.run2000.specs.Runs.{prop, prop_of, shown_in, Inside}
use Rattle.run2000.specs.declared.Stored.{Stored}
use Rattle.run2000.proofs.Written.{shown-same}
use Rattle.differ2000.specs.declared.Difference.{Difference}
use Rattle.differ2000.specs.declared.Place.{Place}
use Rattle.differ2000.specs.declared.Scope.{Scope}
use Rattle.differ2000.specs.Listing.{listing, words, put_fit, list_site, Tables, key_of, UntiedReady, untied_row, UntiedDone, FoundScope, PropertyDone}

-- ---- what differs
module _ {older newer : List ℕ} (T : Tables older newer) (s : List ℕ) (key : ScopeKey) (q : Prop) where
  told : differs older newer s (spot_in key q) ≡ learned older newer s (tied older key q.id) (tied newer key q.id)
  told = differs-learned older newer s T.newer-formed T.extends (spot_in key q)

  tied-same : (r : Tie) → tied older key q.id ≡ some r → differs older newer s (spot_in key q) ≡ false
  tied-same r e = told ∙ ap (λ o. learned older newer s o (tied newer key q.id)) e

  module _ (e : tied older key q.id ≡ none) where
    untied-told : differs older newer s (spot_in key q) ≡ ltb (property_in newer s key q).id 0x8000
    unfolding property_in
    untied-told = told ∙ ap (λ o. learned older newer s o (tied newer key q.id)) e ∙ go (tied newer key q.id) refl
      where
        go : (o : maybe.Option Tie) → tied newer key q.id ≡ o → learned older newer s none o ≡ ltb (shown s q o).id 0x8000
        go none k = sym (le-ltb (bit_or 0x8000 q.id) 0x8000 (unmapped_large q.id))
        go (some r) k = sym (lt-ltb r.target 0x8000 (target_small newer key.kind key.code r T.newer-formed (found-held newer key.kind key.code q.id r k).0))

    older-id : (property_in older s key q).id ≡ bit_or 0x8000 q.id
    unfolding property_in
    older-id = ap (λ o. (shown s q o).id) e

-- ---- what a look-up tells
module _ {older newer : List ℕ} {scope : Scope} (F : FoundScope older newer scope) (s : List ℕ) (from : Place) (p : Stored) {r : Option tied_row.Tie}
    (look : Sorted (body_rows older scope.older) → r ≡ as_row (find (is_tied p.id) (body_rows older scope.older))) where
  looked : r ≡ as_row (tied older (key_of scope) p.id)
  unfolding row_of
  looked = look (F.older-rows.sorted F.tables.older-formed) ∙ ap (λ ties. as_row (find (is_tied p.id) ties)) (F.older-rows.rows F.tables.older-formed)

  pub property-tied : (rows : List ℕ) {x : tied_row.Tie} → r ≡ Some x → PropertyDone older newer scope s rows from p rows from.listed
  unfolding list_site
  property-tied rows h =
      let f = told_as_some tie_of (tied older (key_of scope) p.id) r looked h in
      record { is = rw (tied-same F.tables s (key_of scope) (prop_of p) f.0 f.1) refl }

  pub property-untied : (rows rows' : List ℕ) (n : ℕ) → r ≡ None → UntiedDone newer scope s rows from p rows' n → PropertyDone older newer scope s rows from p rows' n
  unfolding list_site difference_row
  property-untied rows rows' n h d =
      let e = told_as_none tie_of (tied older (key_of scope) p.id) r looked h in
      let b = untied-told F.tables s (key_of scope) (prop_of p) e in
      let i = older-id F.tables s (key_of scope) (prop_of p) e in
      let q = property_in newer s (key_of scope) (prop_of p) in
      record {
        is = d.is ∙ (λ j. cond (sym b j)
            (listing (put_fit rows from.listed (from.property ∷ from.control ∷ p.id ∷ scope.kind ∷ scope.code ∷ sym i j ∷ q.id ∷ q.value.mark ∷ p.start ∷ p.size ∷ [])) (from.listed + 1) (from.property + 1))
            (listing rows from.listed (from.property + 1)));
      }

-- ---- a property that the older table doesn't tie
module _ {newer : List ℕ} {scope : Scope} {s : List ℕ} {from : Place} {p : Stored} (h : UntiedReady newer scope s from p) where
  pub inside : Inside newer scope.newer s p.id p.start p.size
  inside = record { small = h.stored.small; sorted = h.newer-rows.sorted h.formed; inside = h.stored.inside; sized = h.stored.sized }

  module _ {q : Property} (e : q ≡ shown_in (body_rows newer scope.newer) s (prop p.id p.start p.size)) where
    shown-is : q ≡ property_in newer s (key_of scope) (prop_of p)
    shown-is = e ∙ ap (λ f. f (prop_of p)) (shown-same newer s scope.kind scope.code scope.newer h.formed h.newer-rows)

    pub not_learnt : (rows : List ℕ) → 0x8000 ≤ q.id → UntiedDone newer scope s rows from p rows from.listed
    not_learnt rows l =
        let k : 0x8000 ≤ (property_in newer s (key_of scope) (prop_of p)).id = rw shown-is at l in
        record { is = rw (le-ltb (property_in newer s (key_of scope) (prop_of p)).id 0x8000 k) refl }

    starts : (o : maybe.Option Tie) → ((shown s (prop_of p) o).start ≡ p.start) × ((shown s (prop_of p) o).size ≡ p.size)
    starts none = (refl, refl)
    starts (some r) = (refl, refl)

    start_is : ((property_in newer s (key_of scope) (prop_of p)).start ≡ p.start) × ((property_in newer s (key_of scope) (prop_of p)).size ≡ p.size)
    unfolding property_in
    start_is = starts (tied newer (key_of scope) p.id)

    abbrev row : ℕ → Difference
    row old = record {
      property = from.property;
      control = from.control;
      code = p.id;
      scope_kind = scope.kind;
      scope_code = scope.code;
      older_id = old;
      newer_id = q.id;
      newer_mark = q.value.mark;
      start = q.start;
      size = q.size;
    }

    words_are : {old : ℕ} → old ≡ bit_or 0x8000 p.id → words (row old) ≡ untied_row newer scope s from p
    words_are {old = old} oe =
        let a : q.start ≡ p.start = ap (λ (z : Property). z.start) shown-is ∙ start_is.0 in
        let b : q.size ≡ p.size = ap (λ (z : Property). z.size) shown-is ∙ start_is.1 in
        λ j. from.property ∷ from.control ∷ p.id ∷ scope.kind ∷ scope.code ∷ oe j ∷ (shown-is j).id ∷ (shown-is j).value.mark ∷ a j ∷ b j ∷ []

    pub learnt : {rows rows' : List ℕ} {old : ℕ} → q.id < 0x8000 → old ≡ bit_or 0x8000 p.id → rows' ≡ put_fit rows from.listed (words (row old)) → UntiedDone newer scope s rows from p rows' (from.listed + 1)
    learnt {rows = rows} l oe re =
        let k : (property_in newer s (key_of scope) (prop_of p)).id < 0x8000 = rw shown-is at l in
        record {
          is = rw (lt-ltb (property_in newer s (key_of scope) (prop_of p)).id 0x8000 k)
              (ap (λ (z : List ℕ). listing z (from.listed + 1) (from.property + 1)) (re ∙ ap (put_fit rows from.listed) (words_are oe)));
        }
