-- Demand 3 holds.
use Prim.Native.Nat.{ℕ, ◌*◌, ◌<◌, ◌≤◌}
use native.Mathlib.Omega.{arith}
use mathlib.Core.Path.{◌≡◌, refl, sym, ap, ap₂, subst, ◌∙◌}
use mathlib.Core.List.{List, [], map, head-eq_of_cons-eq}
use mathlib.Core.Bool.{Bool, true, false, not, cond}
use mathlib.Core.Option.{Option, none, some}
use mathlib.Core.Logic.{◌⊎◌, inl, inr}
use lib.Bits.{bit_or}
use lib.Dec.{ltb}
use lib.ListN.{length, get_or, take}
use lib.Seq.{take_at}
use borrow.Author.Tests.{ltb-false}
use Rattle.rules.specs.Answer.{answer, refusal, no_reading, too_long_lem, more_controls, more_properties, other_layout, longest}
use Rattle.rules.specs.CodeTable.{Tie}
use Rattle.rules.specs.Tree.{Entries}
use Rattle.rules.specs.Access2000.{Prop, stream_of}
use Rattle.rules.specs.Lists.{concat}
use Rattle.rules.specs.Rows.{control_width, property_width, room, row_at, written}
use Rattle.rules.specs.Reading.{Reading, properties, control_rows, property_row, property_rows}
use Rattle.rules.specs.Read2000.{Spot, tied, shown, property_in, read2000, spots_of}
use Rattle.rules.specs.ReadLater.{read_later_lem}
use Rattle.rules.specs.Blob.{Outcome, refused, read, counted, is2000, read_by, reading_of, fit, outcome, outcome2000, Exit, exit_by_lem, exit, exit2000, spots}
use Rattle.rules.specs.declared.Answer.{Answer}
use Rattle.rules.proofs.ListLaws.{none_some, map-map, get_d_map}
use Rattle.rules.proofs.CodeTableLaws.{found-held, held_found, kept, unmapped_large, target_small}
use Rattle.rules.proofs.RowsLaws.{Wide, words_in, written_is, row_written, behind-written}
use Rattle.rules.proofs.ReadingLaws.{controls_wide, properties_wide, controls-counted, properties-counted}
use Rattle.rules.proofs.Read2000Laws.{shown_at, properties-from, properties-many, counts-from, control-rows-same}
use Rattle.claims.specs.Demand3.{Successor, Learned, RowSays, no-spot, Lent, SameRoom, control_words, property_words, Behind, Alike, SameBut, Same, exit_of2000, exit_of, Demand3}

-- ---- what two calls with the same room leave in their slices
-- a reading has room
abbrev Fits : Lent → Reading → Type 0
Fits lent r = (length r.controls ≤ room control_width lent.controls) × (length (properties r) ≤ room property_width lent.properties)

-- rows stand in their slice
rows_in : (w : ℕ) (rows : List (List ℕ)) → Wide w rows → (n : ℕ) → length rows ≡ n → (old : List ℕ) → length rows * w ≤ length old → take (n * w) (written rows old) ≡ concat rows
rows_in w rows wide n e old fits = ap (take (n * w)) (written_is w rows wide old fits) ∙ take_at (concat rows) _ (n * w) (words_in w rows wide ∙ ap (λ m. m * w) e)

module _ (r : Reading) (lent : Lent) (f : Fits lent r) where
  control-rows-fit : length (control_rows r) * control_width ≤ length lent.controls
  control-rows-fit = omega (arith, controls-counted r, f.0)

  property-rows-fit : length (property_rows r) * property_width ≤ length lent.properties
  property-rows-fit = omega (arith, properties-counted r, f.1)

  control-rows_wide : Wide control_width (control_rows r)
  unfolding control_rows
  control-rows_wide = controls_wide 0 (length r.own) r.controls

  property-rows_wide : Wide property_width (property_rows r)
  unfolding property_rows
  property-rows_wide = properties_wide (properties r)

  controls_in_lem : control_words (length r.controls) (written (control_rows r) lent.controls) ≡ concat (control_rows r)
  controls_in_lem = rows_in control_width (control_rows r) control-rows_wide _ (controls-counted r) lent.controls control-rows-fit

  properties_in_lem : property_words (length (properties r)) (written (property_rows r) lent.properties) ≡ concat (property_rows r)
  properties_in_lem = rows_in property_width (property_rows r) property-rows_wide _ (properties-counted r) lent.properties property-rows-fit

  behind-read : Behind lent (exit_by_lem (read r) lent.controls lent.properties)
  behind-read = record {
    controls = rw (controls-counted r) at (behind-written control_width (control_rows r) control-rows_wide lent.controls control-rows-fit);
    properties = rw (properties-counted r) at (behind-written property_width (property_rows r) property-rows_wide lent.properties property-rows-fit);
  }

module _ (lent lent' : Lent) where
  Both : (Exit → Exit → Type 0) → Outcome → Outcome → Type 0
  Both R a b = R (exit_by_lem a lent.controls lent.properties) (exit_by_lem b lent'.controls lent'.properties)

  refusals_alike : (a : Answer) → ¬ (a.number ≡ 0) → Both (Alike lent lent') (refused a) (refused a)
  unfolding Both concat
  refusals_alike a h = record {
    same_answer = refl;
    same-controls = λ e. absurd (h e);
    behind = λ e. absurd (h e);
    refusal = λ e. (record { controls = refl; properties = refl }, record { controls = refl; properties = refl });
  }

  -- two readings of the same counts
  module _ (r r' : Reading) (counts : counted 0 r ≡ counted 0 r') where
    readings-alike : control_rows r ≡ control_rows r' → Fits lent r → Fits lent' r' → Both (Alike lent lent') (read r) (read r')
    unfolding Both
    readings-alike rows f f' = record {
      same_answer = counts;
      same-controls = λ e.
          controls_in_lem r lent f
          ∙ ap concat rows
          ∙ sym (ap (λ n. control_words n (written (control_rows r') lent'.controls)) (ap (λ a. a.first) counts) ∙ controls_in_lem r' lent' f');
      behind = λ e. (behind-read r lent f, behind-read r' lent' f');
      refusal = λ e. absurd (e refl);
    }

    -- in the same room both are refused, or both are given
    fits_both : (R : Exit → Exit → Type 0) → SameRoom lent lent'
        → ((a : Answer) → ¬ (a.number ≡ 0) → Both R (refused a) (refused a))
        → (Fits lent r → Fits lent' r' → Both R (read r) (read r'))
        → Both R (fit (room control_width lent.controls) (room property_width lent.properties) (some r)) (fit (room control_width lent'.controls) (room property_width lent'.properties) (some r'))
    fits_both R same refusal-same reading-same = rw (← c_same, ← p_same) (go (ltb c (length r.controls)) (ltb p (length (properties r))) refl refl)
      where
        c : ℕ
        c = room control_width lent.controls

        p : ℕ
        p = room property_width lent.properties

        c_same : ltb c (length r.controls) ≡ ltb (room control_width lent'.controls) (length r'.controls)
        c_same = ap₂ ltb same.of_controls (ap (λ a. a.first) counts)

        p_same : ltb p (length (properties r)) ≡ ltb (room property_width lent'.properties) (length (properties r'))
        p_same = ap₂ ltb same.of_properties (ap (λ a. a.second) counts)

        refused-same : (number : ℕ) → ¬ (number ≡ 0) → Both R (refused (counted number r)) (refused (counted number r'))
        refused-same number h = subst (λ a. Both R (refused (counted number r)) (refused (answer number a.first a.second a.third))) counts (refusal-same (counted number r) h)

        go : (b d : Bool) → ltb c (length r.controls) ≡ b → ltb p (length (properties r)) ≡ d → Both R
            (cond b (refused (counted more_controls r)) (cond d (refused (counted more_properties r)) (read r)))
            (cond b (refused (counted more_controls r')) (cond d (refused (counted more_properties r')) (read r')))
        go true d e f = refused-same more_controls (λ q. omega arith)
        go false true e f = refused-same more_properties (λ q. omega arith)
        go false false e f = reading-same (ltb-false _ _ e, ltb-false _ _ f) (ltb-false _ _ (sym c_same ∙ e), ltb-false _ _ (sym p_same ∙ f))

module _ (older newer : List ℕ) (two : Successor older newer) (s : List ℕ) where
  -- ---- one property
  module _ (x : Spot) where
    -- what the newer has learned, it finds; and the older finds nothing
    learned_new : (l : Learned older newer x) → tied newer x.scope x.prop.id ≡ some l.row
    learned_new l = ap (tied newer x.scope) (sym l.its-code) ∙ held_found newer x.scope.kind x.scope.code l.row two.newer-formed l.newer-has

    learned-old : Learned older newer x → tied older x.scope x.prop.id ≡ none
    learned-old l = go (tied older x.scope x.prop.id) refl
      where
        go : (o : Option Tie) → tied older x.scope x.prop.id ≡ o → o ≡ none
        go none e = refl
        go (some r) e = let h = found-held older x.scope.kind x.scope.code x.prop.id r e in absurd (l.older_hasn't r h.0 h.1)

    learned : (r : Tie) → tied older x.scope x.prop.id ≡ none → tied newer x.scope x.prop.id ≡ some r → Learned older newer x
    learned r e e' =
        let h = found-held newer x.scope.kind x.scope.code x.prop.id r e' in
        record {
          row = r;
          newer-has = h.0;
          its-code = h.1;
          older_hasn't = λ r' k q. none_some (sym e ∙ ap (tied older x.scope) (sym q) ∙ held_found older x.scope.kind x.scope.code r' two.older-formed k);
        }

    abbrev row : List ℕ → List ℕ
    row t = property_row (shown_at t s x)

    row_by : (t : List ℕ) (o : Option Tie) → tied t x.scope x.prop.id ≡ o → row t ≡ property_row (shown s x.prop o)
    unfolding shown_at property_in
    row_by t o e = ap (λ y. property_row (shown s x.prop y)) e

    differs : Learned older newer x → ¬ (row older ≡ row newer)
    differs l same =
        let q : row older ≡ property_row (shown s x.prop none) = row_by older none (learned-old l) in
        let q' : row newer ≡ property_row (shown s x.prop (some l.row)) = row_by newer (some l.row) (learned_new l) in
        let e : bit_or 0x8000 x.prop.id ≡ l.row.target = head-eq_of_cons-eq (sym q ∙ same ∙ q') in
        let a = unmapped_large x.prop.id in
        let b = target_small newer x.scope.kind x.scope.code l.row two.newer-formed l.newer-has in
        omega arith

    -- either it was learned, or all words are the same
    either : (o o' : Option Tie) → tied older x.scope x.prop.id ≡ o → tied newer x.scope x.prop.id ≡ o'
        → Learned older newer x ⊎ (row older ≡ row newer)
    either none none e e' = inr (row_by older none e ∙ sym (row_by newer none e'))
    either none (some r) e e' = inl (learned r e e')
    either (some r) o' e e' =
        inr (row_by older (some r) e
        ∙ sym (row_by newer (some r) (kept older newer two.newer-formed two.holds_every_row x.scope.kind x.scope.code x.prop.id r e)))

    pub row-says : RowSays older newer s x (row older) (row newer)
    row-says = go (either (tied older x.scope x.prop.id) (tied newer x.scope x.prop.id) refl refl)
      where
        go : Learned older newer x ⊎ (row older ≡ row newer) → RowSays older newer s x (row older) (row newer)
        go (inl l) = record {
          exactly = (λ d. l, differs);
          else_same = λ n. absurd (n l);
          older-shows = λ k. row_by older none (learned-old k);
          newer-shows = λ k. row_by newer (some k.row) (learned_new k);
        }
        go (inr same) = record {
          exactly = (λ d. absurd (d same), differs);
          else_same = λ n. same;
          older-shows = λ k. row_by older none (learned-old k);
          newer-shows = λ k. row_by newer (some k.row) (learned_new k);
        }

  -- ---- all rows of a tree
  module _ (x : List Prop × Entries Prop) (tree : stream_of s ≡ some x) where
    spots-are : spots s ≡ spots_of s x
    unfolding spots
    spots-are = rw tree

    row-at : (t : List ℕ) (i : ℕ) → i < length (spots_of s x) → get_or (property_rows (read2000 t s x)) i [] ≡ property_row (shown_at t s (get_or (spots_of s x) i no-spot))
    unfolding property_rows
    row-at t i h =
        ap (λ l. get_or (map property_row l) i []) (properties-from t s x)
        ∙ ap (λ l. get_or l i []) (map-map property_row (shown_at t s) (spots_of s x))
        ∙ get_d_map (λ y. property_row (shown_at t s y)) (spots_of s x) i no-spot [] h

    rows_say : (i : ℕ) → i < length (spots_of s x)
        → RowSays older newer s (get_or (spots s) i no-spot) (get_or (property_rows (read2000 older s x)) i []) (get_or (property_rows (read2000 newer s x)) i [])
    rows_say i h = rw (row-at older i h, row-at newer i h, spots-are) (row-says (get_or (spots_of s x) i no-spot))

    same-counts : counted 0 (read2000 older s x) ≡ counted 0 (read2000 newer s x)
    same-counts = counts-from 0 older s x ∙ sym (counts-from 0 newer s x)

  -- ---- what is seen of it
  module _ (lent lent' : Lent) (same : SameRoom lent lent') where
    abbrev Both2000 : Outcome → Outcome → Type 0
    Both2000 = Both lent lent' (SameBut older newer s lent lent')

    refusals_same : (a : Answer) → ¬ (a.number ≡ 0) → Both2000 (refused a) (refused a)
    unfolding Both
    refusals_same a h = record { alike = refusals_alike lent lent' a h; a_row-each = λ e. absurd (h e); rows = λ e. absurd (h e) }

    -- row i of a reading of the tree
    module _ (l : Lent) (t : List ℕ) (x : List Prop × Entries Prop) (f : length (properties (read2000 t s x)) ≤ room property_width l.properties) where
      row_is : (i : ℕ) → i < length (spots_of s x) → row_at property_width i (written (property_rows (read2000 t s x)) l.properties) ≡ get_or (property_rows (read2000 t s x)) i []
      unfolding property_rows
      row_is i h =
          let n = properties-counted (read2000 t s x) in
          let m = properties-many t s x in
          row_written property_width (property_rows (read2000 t s x)) (properties_wide (properties (read2000 t s x))) l.properties (omega arith) i (omega arith)

    readings-same : (x : List Prop × Entries Prop) → stream_of s ≡ some x
        → Fits lent (read2000 older s x) → Fits lent' (read2000 newer s x)
        → Both2000 (read (read2000 older s x)) (read (read2000 newer s x))
    unfolding Both
    readings-same x tree f f' =
        let n = properties-many older s x in
        record {
          alike = readings-alike lent lent' (read2000 older s x) (read2000 newer s x) (same-counts x tree) (control-rows-same older newer s two.same-header x) f f';
          a_row-each = λ e. ap length (spots-are x tree) ∙ sym n;
          rows = λ e i h. rw (row_is lent older x f.1 i (omega arith), row_is lent' newer x f'.1 i (omega arith)) (rows_say x tree i (omega arith));
        }

    fit_in_lem : Option Reading → Outcome
    fit_in_lem = fit (room control_width lent.controls) (room property_width lent.properties)

    fit_in' : Option Reading → Outcome
    fit_in' = fit (room control_width lent'.controls) (room property_width lent'.properties)

    trees_same : (o : Option (List Prop × Entries Prop)) → stream_of s ≡ o → Both2000 (fit_in_lem (read_by older s o)) (fit_in' (read_by newer s o))
    unfolding fit_in_lem fit_in'
    trees_same none e = refusals_same (refusal no_reading) (λ q. omega arith)
    trees_same (some x) e = fits_both lent lent' (read2000 older s x) (read2000 newer s x) (same-counts x e) (SameBut older newer s lent lent') same refusals_same (readings-same x e)

    all_same : is2000 older s ≡ true → is2000 newer s ≡ true → SameBut older newer s lent lent' (exit_of older s lent) (exit_of newer s lent')
    unfolding exit outcome reading_of Both fit_in_lem fit_in'
    all_same e e' = rw (two.older-formed, two.newer-formed, e, e') (go (ltb longest (length s)))
      where
        go : (b : Bool) → Both2000 (cond b (refused (refusal too_long_lem)) (fit_in_lem (read_by older s (stream_of s)))) (cond b (refused (refusal too_long_lem)) (fit_in' (read_by newer s (stream_of s))))
        go true = refusals_same (refusal too_long_lem) (λ q. omega arith)
        go false = trees_same (stream_of s) refl

    -- of the Access 2000 reader: 5, 15 or the same trees
    reader_same : is2000 older s ≡ is2000 newer s → SameBut older newer s lent lent' (exit_of2000 older s lent) (exit_of2000 newer s lent')
    unfolding exit2000 outcome2000 Both fit_in_lem fit_in'
    reader_same e = rw (two.older-formed, two.newer-formed, ← e) (go (ltb longest (length s)) (is2000 older s))
      where
        go : (b d : Bool)
            → Both2000 (cond b (refused (refusal too_long_lem)) (cond (not d) (refused (refusal other_layout)) (fit_in_lem (read_by older s (stream_of s)))))
            (cond b (refused (refusal too_long_lem)) (cond (not d) (refused (refusal other_layout)) (fit_in' (read_by newer s (stream_of s)))))
        go true d = refusals_same (refusal too_long_lem) (λ q. omega arith)
        go false false = refusals_same (refusal other_layout) (λ q. omega arith)
        go false true = trees_same (stream_of s) refl

    -- ---- of any other stream the same reading is given
    later_refusals : (a : Answer) → ¬ (a.number ≡ 0) → Both lent lent' (Same lent lent') (refused a) (refused a)
    unfolding Both
    later_refusals a h = record { alike = refusals_alike lent lent' a h; same-properties = λ e. absurd (h e) }

    later-readings : (r : Reading) → Fits lent r → Fits lent' r → Both lent lent' (Same lent lent') (read r) (read r)
    unfolding Both
    later-readings r f f' = record { alike = readings-alike lent lent' r r refl refl f f'; same-properties = λ e. properties_in_lem r lent f ∙ sym (properties_in_lem r lent' f') }

    later_same : is2000 older s ≡ false → is2000 newer s ≡ false → Same lent lent' (exit_of older s lent) (exit_of newer s lent')
    unfolding exit outcome reading_of Both fit_in_lem fit_in'
    later_same e e' = rw (two.older-formed, two.newer-formed, e, e') (go (ltb longest (length s)))
      where
        go : (b : Bool) → Both lent lent' (Same lent lent') (cond b (refused (refusal too_long_lem)) (fit_in_lem (some (read_later_lem s)))) (cond b (refused (refusal too_long_lem)) (fit_in' (some (read_later_lem s))))
        go true = later_refusals (refusal too_long_lem) (λ q. omega arith)
        go false = fits_both lent lent' (read_later_lem s) (read_later_lem s) refl (Same lent lent') same later_refusals (later-readings (read_later_lem s))

  choice_same : is2000 older s ≡ is2000 newer s
  unfolding is2000
  choice_same = rw two.one-layout

pub not-true : (b : Bool) → ¬ (b ≡ true) → b ≡ false
not-true true h = absurd (h refl)
not-true false h = refl

pub demand3 : Demand3
demand3 = record {
  same_but = λ older newer s lent lent' two same. reader_same older newer two s lent lent' same (choice_same older newer two s);
  chosen-same_but = λ older newer s lent lent' two same e. all_same older newer two s lent lent' same e (sym (choice_same older newer two s) ∙ e);
  later_same = λ older newer s lent lent' two same n.
      let e = not-true (is2000 older s) n in
      later_same older newer two s lent lent' same e (sym (choice_same older newer two s) ∙ e);
}
