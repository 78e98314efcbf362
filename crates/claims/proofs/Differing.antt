-- The list of differences is right, and complete.
use Prim.Native.Nat.{ℕ, zero, suc, ◌+◌, ◌-◌, ◌*◌, ◌≤◌, ◌<◌}
use native.Mathlib.Omega.{arith}
use native.Mathlib.Nat.{zero-add}
use mathlib.Core.Path.{◌≡◌, refl, sym, ap, subst, ◌∙◌}
use mathlib.Core.Bool.{Bool, true, false, not, cond, ◌&&◌, true≢false}
use mathlib.Core.List.{List, [], ◌∷◌, ◌++◌, map}
use mathlib.Core.Logic.{◌↔◌}
use mathlib.Core.Option.{Option, none, some}
use borrow.Author.Tests.{lt-ltb, le-ltb, ltb-true, ltb-false, ne_eqb, eqb-true, eqb-false}
use lib.Dec.{ltb, eqb}
use lib.ListN.{length, get_or, take, drop, replicate, length-replicate, length-map, length-append, get_or-append}
use lib.Seq.{get_or-append-add}
use Rattle.rules.specs.Lists.{all}
use Rattle.rules.specs.Answer.{answer, refusal, longest}
use Rattle.rules.specs.CodeTable.{Tie, scopes, well_formed_lem}
use Rattle.rules.specs.Join.{same_head_lem}
use Rattle.rules.specs.Tree.{Entries, Node, nodes_of}
use Rattle.rules.specs.Access2000.{Prop, stream_of}
use Rattle.rules.specs.Rows.{control_width, property_width, difference_width, room, written, row_at}
use Rattle.rules.specs.Reading.{Control, Reading, properties, property_row, property_rows}
use Rattle.rules.specs.Read2000.{object_key, tied, shown, property_in, control_of, read2000, Spot, spot_in, node_spots, spots_of}
use Rattle.rules.specs.ReadLater.{read_later_lem}
use Rattle.rules.specs.Listing.{word}
use Rattle.rules.specs.Blob.{Exit, is2000, read_by, reading_of, read, counted, outcome, exit_by_lem, exit, spots}
use Rattle.rules.specs.Differences.{has_scope, succeeds, Site, site_in, no_control, node_sites, sites_of, sites, showing, differs, difference_row, differences_from, difference_rows, differences_fit, differences_answer, DifferencesExit, differences_exit}
use Rattle.rules.specs.declared.Answer.{Answer}
use Rattle.rules.proofs.ListLaws.{and_l, and_r, none_some, map-map, get_d_map}
use Rattle.rules.proofs.RowsLaws.{Wide, row_written, behind-written}
use Rattle.rules.proofs.ReadingLaws.{total}
use Rattle.rules.proofs.Read2000Laws.{shown_at, properties-from, properties-many, controls-many, own-many, control-rows-same}
use Rattle.joinlaws.proofs.MergeLaws.{and_both}
use Rattle.joinlaws.proofs.JoinedLaws.{head-same, same_head}
use Rattle.differlaws.proofs.DifferencesLaws.{has-extends, extends-has, spot_of, sites-spots, differs_true, differs-is, Speaks, wide, listed_speaks, speaks_listed, listed-ascend, none-listed}
use Rattle.claims.specs.Answers.{BlobAnswer}
use Rattle.claims.specs.Demand1.{Refused}
use Rattle.claims.specs.Demand3.{Successor, RowSays, Lent, SameBut, no-spot}
use Rattle.claims.specs.Differing.{Comparable, DifferencesAnswer, listed, Lists, Under, Says, Differing, Differences}
use Rattle.claims.proofs.Answers.{blob_right, exactly}
use Rattle.claims.proofs.Demand3.{demand3, row-says, not-true}
use Rattle.claims.proofs.RowsSeen.{no-control, no-property, Rows, Zero, zero-read, first-is, count-is}

-- ---- what 19 is judged by
judged : (older newer : List ℕ) → well_formed_lem older ≡ true → well_formed_lem newer ≡ true → (succeeds older newer ≡ true) ↔ Successor older newer
unfolding succeeds
judged older newer w w' = (
  λ e.
      let heads = same_head older newer (and_l (same_head_lem older newer) (all (has_scope newer) (scopes older)) e) in
      record {
        older-formed = w;
        newer-formed = w';
        one-layout = heads.0;
        same-header = heads.1;
        holds_every_row = has-extends older newer (and_r (same_head_lem older newer) (all (has_scope newer) (scopes older)) e);
      },
  λ two. and_both (same_head_lem older newer) (all (has_scope newer) (scopes older)) (head-same older newer two.one-layout two.same-header) (extends-has older newer w' two.holds_every_row),
)

-- ---- the answers
not_both : (a b : Bool) → ¬ ((a ≡ true) × (b ≡ true)) → (a && b) ≡ false
not_both true true n = absurd (n (refl, refl))
not_both true false n = refl
not_both false b n = refl

module _ (older newer s rows : List ℕ) where
  abbrev n : ℕ
  n = room difference_width rows

  abbrev said : Answer
  said = differences_answer older newer s n

  abbrev those : List (List ℕ)
  those = difference_rows older newer s

  comparable_is : Comparable older newer s → said ≡ differences_fit n those (reading_of older s)
  unfolding differences_answer
  comparable_is c =
      rw (
        le-ltb longest (length s) c.not_long,
        c.successor.older-formed,
        c.successor.newer-formed,
        (judged older newer c.successor.older-formed c.successor.newer-formed).1 c.successor,
      )

  no-reading : is2000 older s ≡ true → stream_of s ≡ none → reading_of older s ≡ none
  unfolding reading_of
  no-reading o e = rw (o, e)

  right : (a : Answer) → DifferencesAnswer older newer s rows a → a ≡ said
  unfolding differences_answer
  right _ (DifferencesAnswer.five h) = sym (rw (lt-ltb longest (length s) h))
  right _ (DifferencesAnswer.eight h w) = sym (rw (le-ltb longest (length s) h, not_both (well_formed_lem older) (well_formed_lem newer) w))
  right _ (DifferencesAnswer.nineteen h w w' never) =
      sym (rw (le-ltb longest (length s) h, w, w', not-true (succeeds older newer) (λ e. never ((judged older newer w w').0 e))))
  right _ (DifferencesAnswer.four c o e) = sym (comparable_is c ∙ ap (differences_fit n those) (no-reading o e))
  right _ (DifferencesAnswer.six c {r} e h) = sym (comparable_is c ∙ rw (e, lt-ltb n (length those) h))
  right _ (DifferencesAnswer.zero c {r} e h) = sym (comparable_is c ∙ rw (e, le-ltb n (length those) h))

  why-none : reading_of older s ≡ none → (is2000 older s ≡ true) × (stream_of s ≡ none)
  unfolding reading_of
  why-none e = go (is2000 older s) (stream_of s) refl refl e
    where
      go : (b : Bool) (o : Option (List Prop × Entries Prop)) → is2000 older s ≡ b → stream_of s ≡ o → cond b (read_by older s o) (some (read_later_lem s)) ≡ none
          → (is2000 older s ≡ true) × (stream_of s ≡ none)
      go true none x y e = (x, y)
      go true (some z) x y e = absurd (none_some (sym e))
      go false o x y e = absurd (none_some (sym e))

  fit-told : Comparable older newer s → (o : Option Reading) → reading_of older s ≡ o → DifferencesAnswer older newer s rows (differences_fit n those o)
  fit-told c none e = let w = why-none e in DifferencesAnswer.four c w.0 w.1
  fit-told c (some r) e = go (ltb n (length those)) refl
    where
      go : (b : Bool) → ltb n (length those) ≡ b
          → DifferencesAnswer older newer s rows (cond b (answer 6 (length those) (length (properties r)) 0) (answer 0 (length those) (length (properties r)) 0))
      go true h = DifferencesAnswer.six c e (ltb-true _ _ h)
      go false h = DifferencesAnswer.zero c e (ltb-false _ _ h)

  told : DifferencesAnswer older newer s rows said
  unfolding differences_answer
  told = go (ltb longest (length s)) (well_formed_lem older) (well_formed_lem newer) (succeeds older newer) refl refl refl refl
    where
      go : (b d d' u : Bool) → ltb longest (length s) ≡ b → well_formed_lem older ≡ d → well_formed_lem newer ≡ d' → succeeds older newer ≡ u
          → DifferencesAnswer older newer s rows
          (cond b (refusal 5) (cond (not (d && d')) (refusal 8) (cond (not u) (refusal 19) (differences_fit n those (reading_of older s)))))
      go true d d' u h w w' e = DifferencesAnswer.five (ltb-true _ _ h)
      go false false d' u h w w' e = DifferencesAnswer.eight (ltb-false _ _ h) (λ b. true≢false (sym b.0 ∙ w))
      go false true false u h w w' e = DifferencesAnswer.eight (ltb-false _ _ h) (λ b. true≢false (sym b.1 ∙ w'))
      go false true true false h w w' e = DifferencesAnswer.nineteen (ltb-false _ _ h) w w' (λ two. true≢false (sym ((judged older newer w w').1 two) ∙ e))
      go false true true true h w w' e =
          fit-told (record { not_long = ltb-false _ _ h; successor = (judged older newer w w').0 e }) (reading_of older s) refl

  answers : (a : Answer) → DifferencesAnswer older newer s rows a ↔ (a ≡ (differences_exit older newer s rows).answer)
  unfolding differences_exit
  answers = exactly right told

  rows_stay : Refused (differences_exit older newer s rows).answer → (differences_exit older newer s rows).rows ≡ rows
  unfolding differences_exit
  rows_stay h = rw (ne_eqb said.number 0 h)

  -- ---- the list, where it is given
  record Given : Type 0 where
    comparable : Comparable older newer s
    reading : Reading
    is : reading_of older s ≡ some reading
    fits : length those ≤ n
    answered : said ≡ answer 0 (length those) (length (properties reading)) 0

  told-given : (a : Answer) → DifferencesAnswer older newer s rows a → a ≡ said → a.number ≡ 0 → Given
  told-given _ (DifferencesAnswer.five h) q e = absurd (omega arith)
  told-given _ (DifferencesAnswer.eight h w) q e = absurd (omega arith)
  told-given _ (DifferencesAnswer.nineteen h w w' never) q e = absurd (omega arith)
  told-given _ (DifferencesAnswer.four c o x) q e = absurd (omega arith)
  told-given _ (DifferencesAnswer.six c x h) q e = absurd (omega arith)
  told-given _ (DifferencesAnswer.zero c {r} x h) q e = record { comparable = c; reading = r; is = x; fits = h; answered = sym q }

  given : (differences_exit older newer s rows).answer.number ≡ 0 → Given
  unfolding differences_exit
  given e = told-given said told refl e

  those_wide : Wide difference_width those
  unfolding difference_rows
  those_wide = go (is2000 older s)
    where
      go : (b : Bool) → Wide difference_width (cond b (differences_from older newer s 0 (sites s)) [])
      go true = wide older newer s 0 (sites s)
      go false = tt

  module _ (g : Given) where
    seen-is : differences_exit older newer s rows ≡ record { answer = answer 0 (length those) (length (properties g.reading)) 0; rows = written those rows }
    unfolding differences_exit
    seen-is = rw g.answered

    many-listed : (differences_exit older newer s rows).answer.first ≡ length those
    many-listed = ap (λ e. e.answer.first) seen-is

    words-fit : length those * difference_width ≤ length rows
    words-fit = omega (arith, g.fits)

    listed-is : (k : ℕ) → k < length those → listed (differences_exit older newer s rows) k ≡ get_or those k []
    listed-is k l = ap (λ e. listed e k) seen-is ∙ row_written difference_width those those_wide rows words-fit k l

    after : drop ((differences_exit older newer s rows).answer.first * difference_width) (differences_exit older newer s rows).rows
        ≡ drop ((differences_exit older newer s rows).answer.first * difference_width) rows
    after = rw seen-is (behind-written difference_width those those_wide rows words-fit)

-- ---- where a property stands
showing-start : (t s : List ℕ) (x : Spot) → (showing t s x).start ≡ x.prop.start
unfolding property_in
showing-start t s x = go (tied t x.scope x.prop.id)
  where
    go : (o : Option Tie) → (shown s x.prop o).start ≡ x.prop.start
    go none = refl
    go (some r) = refl

showing-size : (t s : List ℕ) (x : Spot) → (showing t s x).size ≡ x.prop.size
unfolding property_in
showing-size t s x = go (tied t x.scope x.prop.id)
  where
    go : (o : Option Tie) → (shown s x.prop o).size ≡ x.prop.size
    go none = refl
    go (some r) = refl

abbrev no_site : Site
no_site = site_in 0 no-spot

module _ (s : List ℕ) (x : List Prop × Entries Prop) where
  sites-many : length (sites_of s x) ≡ length (spots_of s x)
  sites-many = sym (length-map (sites_of s x) spot_of) ∙ ap length (sites-spots s x)

  site_spot : (j : ℕ) → j < length (sites_of s x) → (get_or (sites_of s x) j no_site).spot ≡ get_or (spots_of s x) j no-spot
  site_spot j l = sym (get_d_map spot_of (sites_of s x) j no_site no-spot l) ∙ ap (λ l. get_or l j no-spot) (sites-spots s x)

-- ---- the control that a property stands under
module _ (t s : List ℕ) where
  abbrev controls : List (Node Prop) → List Control
  controls ms = map (control_of t s) ms

  props-many : (m : Node Prop) → length (control_of t s m).properties ≡ length (node_spots m)
  unfolding control_of
  props-many m = simp length-map

  -- property j of these nodes, the first of which has the control row n
  record UnderNode (n : ℕ) (ms : List (Node Prop)) (j : ℕ) (site : Site) : Type 0 where
    control : ℕ
    is : site.control ≡ n + control
    there : control < length ms
    from : total (take control (controls ms)) ≤ j
    to : j < total (take control (controls ms)) + length (get_or (controls ms) control no-control).properties

  under_first : (n : ℕ) (m : Node Prop) (ms : List (Node Prop)) (j : ℕ) → j < length (node_spots m)
      → UnderNode n (m ∷ ms) j (get_or (map (site_in n) (node_spots m) ++ node_sites (n + 1) ms) j no_site)
  unfolding total
  under_first n m ms j l =
      let own = map (site_in n) (node_spots m) in
      let e : get_or (own ++ node_sites (n + 1) ms) j no_site ≡ get_or own j no_site = get_or-append own (node_sites (n + 1) ms) no_site j (omega (arith, length-map (node_spots m) (site_in n))) in
      let f : get_or own j no_site ≡ site_in n (get_or (node_spots m) j no-spot) = get_d_map (site_in n) (node_spots m) j no-spot no_site l in
      record { control = 0; is = ap (λ y. y.control) (e ∙ f) ∙ omega arith; there = omega arith; from = omega arith; to = omega (arith, props-many m) }

  under_rest : (n : ℕ) (m : Node Prop) (ms : List (Node Prop)) (k : ℕ) → UnderNode (n + 1) ms k (get_or (node_sites (n + 1) ms) k no_site)
      → UnderNode n (m ∷ ms) (length (node_spots m) + k) (get_or (map (site_in n) (node_spots m) ++ node_sites (n + 1) ms) (length (node_spots m) + k) no_site)
  unfolding total
  under_rest n m ms k u =
      let own = map (site_in n) (node_spots m) in
      let many : length (node_spots m) + k ≡ length own + k = ap (λ i. i + k) (sym (length-map (node_spots m) (site_in n))) in
      let e : get_or (own ++ node_sites (n + 1) ms) (length (node_spots m) + k) no_site ≡ get_or (node_sites (n + 1) ms) k no_site =
      ap (λ i. get_or (own ++ node_sites (n + 1) ms) i no_site) many ∙ get_or-append-add own (node_sites (n + 1) ms) k no_site in
      record {
        control = suc u.control;
        is = ap (λ y. y.control) e ∙ u.is ∙ omega arith;
        there = omega (arith, u.there);
        from = omega (arith, u.from, props-many m);
        to = omega (arith, u.to, props-many m);
      }

  under_node : (n : ℕ) (ms : List (Node Prop)) (j : ℕ) → j < length (node_sites n ms) → UnderNode n ms j (get_or (node_sites n ms) j no_site)
  unfolding node_sites
  under_node n [] j l = absurd (omega arith)
  under_node n (m ∷ ms) j l = go (ltb j (length (node_spots m))) refl (under_node (n + 1) ms (j - length (node_spots m)))
    where
      go : (b : Bool) → ltb j (length (node_spots m)) ≡ b
          → (j - length (node_spots m) < length (node_sites (n + 1) ms) → UnderNode (n + 1) ms (j - length (node_spots m)) (get_or (node_sites (n + 1) ms) (j - length (node_spots m)) no_site))
          → UnderNode n (m ∷ ms) j (get_or (map (site_in n) (node_spots m) ++ node_sites (n + 1) ms) j no_site)
      go true e rest = under_first n m ms j (ltb-true _ _ e)
      go false e rest =
          let b : length (node_spots m) ≤ j = ltb-false _ _ e in
          let many = length-append (map (site_in n) (node_spots m)) (node_sites (n + 1) ms) in
          let own = length-map (node_spots m) (site_in n) in
          let k : j - length (node_spots m) < length (node_sites (n + 1) ms) = omega arith in
          let back : length (node_spots m) + (j - length (node_spots m)) ≡ j = omega arith in
          subst (λ i. UnderNode n (m ∷ ms) i (get_or (map (site_in n) (node_spots m) ++ node_sites (n + 1) ms) i no_site)) back
          (under_rest n m ms (j - length (node_spots m)) (rest k))

-- ---- what a call that is answered 0 shows of an Access 2000 stream
module _ (t s cs ps : List ℕ) (x : List Prop × Entries Prop) (reads : reading_of t s ≡ some (read2000 t s x)) (zeroed : (exit t s cs ps).answer.number ≡ 0) where
  abbrev a : Exit
  a = exit t s cs ps

  abbrev r : Reading
  r = read2000 t s x

  abbrev z : Zero t s cs ps
  z = zero-read t s cs ps zeroed

  same-reading : z.reading ≡ r
  same-reading = let e : some z.reading ≡ some r = sym z.is_read ∙ reads in cc

  seen_as : a ≡ exit_by_lem (read r) cs ps
  seen_as = z.is_seen ∙ ap (λ y. exit_by_lem (read y) cs ps) same-reading

  rows_of : Rows r a
  rows_of = subst (Rows r) (sym seen_as) (subst (λ y. Rows y (exit_by_lem (read y) cs ps)) same-reading z.rows)

  first-many : a.answer.first ≡ length (nodes_of x.1)
  first-many = ap (λ e. e.answer.first) seen_as ∙ controls-many t s x

  second-many : a.answer.second ≡ length (spots_of s x)
  second-many = ap (λ e. e.answer.second) seen_as ∙ properties-many t s x

  third-many : a.answer.third ≡ length x.0
  third-many = ap (λ e. e.answer.third) seen_as ∙ own-many t s x

  row-at : (i : ℕ) → i < length (spots_of s x) → row_at property_width i a.properties ≡ property_row (showing t s (get_or (spots_of s x) i no-spot))
  unfolding shown_at
  row-at i l =
      rows_of.property-row i (omega (arith, properties-many t s x))
      ∙ ap (λ ys. property_row (get_or ys i no-property)) (properties-from t s x)
      ∙ ap property_row (get_d_map (shown_at t s) (spots_of s x) i no-spot no-property l)

  abbrev own : List Site
  own = map (site_in no_control) (map (spot_in (object_key s)) x.0)

  abbrev below : List Site
  below = node_sites 0 (nodes_of x.1)

  under_control : (k : ℕ) → k < length below → Under a (length x.0 + k) (get_or below k no_site).control
  unfolding read2000
  under_control k l =
      let u = under_node t s 0 (nodes_of x.1) k l in
      let c = u.control in
      let there : c < length r.controls = omega (arith, u.there, controls-many t s x) in
      let first = first-is rows_of c there in
      let count = count-is rows_of c there in
      let many = own-many t s x in
      subst (Under a (length x.0 + k)) (sym (u.is ∙ zero-add c))
      (Under.a_control (omega (arith, first-many, u.there)) (omega (arith, u.from)) (omega (arith, u.to)))

  under_object : (j : ℕ) → j < length own → Under a j (get_or own j no_site).control
  under_object j l =
      let objects = map (spot_in (object_key s)) x.0 in
      let m : length own ≡ length objects = length-map objects (site_in no_control) in
      let m' : length objects ≡ length x.0 = length-map x.0 (spot_in (object_key s)) in
      let e : get_or own j no_site ≡ site_in no_control (get_or objects j no-spot) = get_d_map (site_in no_control) objects j no-spot no_site (omega arith) in
      subst (Under a j) (sym (ap (λ y. y.control) e)) (Under.the_object (omega (arith, third-many)))

  under : (j : ℕ) → j < length (sites_of s x) → Under a j (get_or (sites_of s x) j no_site).control
  unfolding sites_of
  under j l = go (ltb j (length own)) refl
    where
      go : (b : Bool) → ltb j (length own) ≡ b → Under a j (get_or (own ++ below) j no_site).control
      go true e =
          let k : j < length own = ltb-true _ _ e in
          subst (Under a j) (sym (ap (λ y. y.control) (get_or-append own below no_site j k))) (under_object j k)
      go false e =
          let k : length own ≤ j = ltb-false _ _ e in
          let m = length-append own below in
          let objects : length own ≡ length x.0 = length-map (map (spot_in (object_key s)) x.0) (site_in no_control) ∙ length-map x.0 (spot_in (object_key s)) in
          let back : length own + (j - length own) ≡ j = omega arith in
          let back' : length x.0 + (j - length own) ≡ j = omega arith in
          let q : get_or (own ++ below) j no_site ≡ get_or below (j - length own) no_site =
          ap (λ i. get_or (own ++ below) i no_site) (sym back) ∙ get_or-append-add own below (j - length own) no_site in
          subst (Under a j) (sym (ap (λ y. y.control) q))
          (subst (λ i. Under a i (get_or below (j - length own) no_site).control) back' (under_control (j - length own) (omega arith)))

-- ---- the list against the two readings
module _ (older newer s rows cs ps cs' ps' : List ℕ) (g : Given older newer s rows) (o : is2000 older s ≡ true)
    (x : List Prop × Entries Prop) (tree : stream_of s ≡ some x)
    (reads : reading_of older s ≡ some (read2000 older s x)) (reads' : reading_of newer s ≡ some (read2000 newer s x))
    (h : (exit older s cs ps).answer.number ≡ 0) (h' : (exit newer s cs' ps').answer.number ≡ 0) where
  abbrev seen : DifferencesExit
  seen = differences_exit older newer s rows

  abbrev old : Exit
  old = exit older s cs ps

  abbrev new : Exit
  new = exit newer s cs' ps'

  abbrev list : List (List ℕ)
  list = differences_from older newer s 0 (sites_of s x)

  list-is : difference_rows older newer s ≡ list
  unfolding difference_rows sites
  list-is = rw (o, tree)

  many : seen.answer.first ≡ length list
  many = many-listed older newer s rows g ∙ ap length list-is

  row_is : (k : ℕ) → k < length list → listed seen k ≡ get_or list k []
  row_is k l = listed-is older newer s rows g k (omega (arith, ap length list-is)) ∙ ap (λ r. get_or r k []) list-is

  spots-are : spots s ≡ spots_of s x
  unfolding spots
  spots-are = rw tree

  abbrev spot : ℕ → Spot
  spot j = get_or (spots_of s x) j no-spot

  abbrev site : ℕ → Site
  site j = get_or (sites_of s x) j no_site

  -- row k of the list speaks of the property row j
  record Listed (k j : ℕ) : Type 0 where
    in_list : k < seen.answer.first
    in_rows : j < length (spots_of s x)
    in_sites : j < length (sites_of s x)
    words : listed seen k ≡ difference_row older newer s j (site j)
    number : word (listed seen k) 0 ≡ j
    does : differs older newer s (spot j) ≡ true

  speaks : (k j : ℕ) → Speaks older newer s list 0 (sites_of s x) no_site k j → Listed k j
  unfolding difference_row
  speaks k j p =
      let l = p.looked_at in
      let w : listed seen k ≡ difference_row older newer s j (site j) = row_is k p.listed ∙ p.its-row ∙ ap (λ (i : ℕ). difference_row older newer s i (site j)) (zero-add j) in
      record {
        in_list = omega (arith, many, p.listed);
        in_rows = omega (arith, sites-many s x);
        in_sites = l;
        words = w;
        number = ap (λ r. word r 0) w;
        does = ap (differs older newer s) (sym (site_spot s x j l)) ∙ p.does;
      }

  from_list : (k : ℕ) → k < seen.answer.first → (j : ℕ) × Listed k j
  from_list k l = let p = listed_speaks older newer s 0 (sites_of s x) no_site k (omega (arith, many)) in (p.0, speaks k p.0 p.1)

  to-list : (j : ℕ) → j < length (spots_of s x) → differs older newer s (spot j) ≡ true → (k : ℕ) × Listed k j
  to-list j l d =
      let m : j < length (sites_of s x) = omega (arith, sites-many s x) in
      let p = speaks_listed older newer s 0 (sites_of s x) no_site j m (ap (differs older newer s) (site_spot s x j m) ∙ d) in
      (p.0, speaks p.0 j p.1)

  -- ---- exactly those that differ
  abbrev Differ : ℕ → Type 0
  Differ i = ¬ (row_at property_width i old.properties ≡ row_at property_width i new.properties)

  older-row : (i : ℕ) → i < length (spots_of s x) → row_at property_width i old.properties ≡ property_row (showing older s (spot i))
  older-row i l = row-at older s cs ps x reads h i l

  newer-row : (i : ℕ) → i < length (spots_of s x) → row_at property_width i new.properties ≡ property_row (showing newer s (spot i))
  newer-row i l = row-at newer s cs' ps' x reads' h' i l

  second_is : old.answer.second ≡ length (spots_of s x)
  second_is = second-many older s cs ps x reads h

  listed-differs : (i : ℕ) → Lists seen i → (i < old.answer.second) × Differ i
  listed-differs i (k, l, e) =
      let p = from_list k l in
      let q : p.0 ≡ i = sym p.1.number ∙ e in
      let r : (p.0 < old.answer.second) × Differ p.0 = (
        omega (arith, second_is, p.1.in_rows),
        λ same. differs_true older newer s (spot p.0) p.1.does (sym (older-row p.0 p.1.in_rows) ∙ same ∙ newer-row p.0 p.1.in_rows),
      ) in
      subst (λ (i : ℕ). (i < old.answer.second) × Differ i) q r

  differs-listed : (i : ℕ) → (i < old.answer.second) × Differ i → Lists seen i
  differs-listed i (l, d) =
      let m : i < length (spots_of s x) = omega (arith, second_is) in
      let p = to-list i m (differs-is older newer s (spot i) (λ same. d (older-row i m ∙ same ∙ sym (newer-row i m)))) in
      (p.0, p.1.in_list, p.1.number)

  -- ---- what a row says
  its-words : (k j : ℕ) → Listed k j → Says old new j (spot j) (listed seen k)
  unfolding difference_row
  its-words k j p =
      let e = site_spot s x j p.in_sites in
      let w : (i : ℕ) → word (listed seen k) i ≡ word (difference_row older newer s j (site j)) i = λ i. ap (λ r. word r i) p.words in
      let v : (i : ℕ) → word (row_at property_width j old.properties) i ≡ word (property_row (showing older s (spot j))) i = λ i. ap (λ r. word r i) (older-row j p.in_rows) in
      let v' : (i : ℕ) → word (row_at property_width j new.properties) i ≡ word (property_row (showing newer s (spot j))) i = λ i. ap (λ r. word r i) (newer-row j p.in_rows) in
      record {
        control = subst (Under old j) (sym (w 1)) (under older s cs ps x reads h j p.in_sites);
        raw_code = w 2 ∙ ap (λ y. y.prop.id) e;
        scope-kind = w 3 ∙ ap (λ y. y.scope.kind) e;
        scope-code = w 4 ∙ ap (λ y. y.scope.code) e;
        older-id = w 5 ∙ ap (λ y. (showing older s y).id) e ∙ sym (v 0);
        newer-id = w 6 ∙ ap (λ y. (showing newer s y).id) e ∙ sym (v' 0);
        newer-mark = w 7 ∙ ap (λ y. (showing newer s y).value.mark) e ∙ sym (v' 1);
        start = w 8 ∙ ap (λ y. y.prop.start) e ∙ sym (showing-start older s (spot j)) ∙ sym (v 4);
        size = w 9 ∙ ap (λ y. y.prop.size) e ∙ sym (showing-size older s (spot j)) ∙ sym (v 5);
      }

  says : (k : ℕ) → k < seen.answer.first → Says old new (word (listed seen k) 0) (get_or (spots s) (word (listed seen k) 0) no-spot) (listed seen k)
  says k l =
      let p = from_list k l in
      subst (λ (i : ℕ). Says old new i (get_or (spots s) i no-spot) (listed seen k)) (sym p.1.number)
      (subst (λ ys. Says old new p.0 (get_or ys p.0 no-spot) (listed seen k)) (sym spots-are) (its-words k p.0 p.1))

  in_order : (j k : ℕ) → j < k → k < seen.answer.first → word (listed seen j) 0 < word (listed seen k) 0
  in_order j k l m = rw (row_is j (omega (arith, many)), row_is k (omega (arith, many))) (listed-ascend older newer s 0 (sites_of s x) j k l (omega (arith, many)))

  -- ---- and exactly those that were learned
  says_row : (i : ℕ) → i < length (spots_of s x) → RowSays older newer s (get_or (spots s) i no-spot) (row_at property_width i old.properties) (row_at property_width i new.properties)
  unfolding shown_at
  says_row i l = rw (older-row i l, newer-row i l, spots-are) (row-says older newer g.comparable.successor s (spot i))

  differing-is : Differing older newer s old new seen
  differing-is = record {
    all_looked_at = ap (λ e. e.answer.second) (seen-is older newer s rows g) ∙ second-same ∙ sym second_is;
    exactly = λ i. (listed-differs i, differs-listed i);
    learned = λ i. (
      λ m. let d = listed-differs i m in (d.0, (says_row i (omega (arith, second_is, d.0))).exactly.0 d.1),
      λ m. differs-listed i (m.0, (says_row i (omega (arith, second_is, m.0))).exactly.1 m.1),
    );
    in_order = in_order;
    says = says;
  }
    where
      second-same : length (properties g.reading) ≡ length (spots_of s x)
      second-same =
          let e : some g.reading ≡ some (read2000 older s x) = sym g.is ∙ reads in
          let q : g.reading ≡ read2000 older s x = cc in
          ap (λ r. length (properties r)) q ∙ properties-many older s x

-- ---- nothing listed
choice_same : (older newer s : List ℕ) → Successor older newer → is2000 older s ≡ is2000 newer s
unfolding is2000
choice_same older newer s two = rw two.one-layout

reads-tree : (t s : List ℕ) (x : List Prop × Entries Prop) → is2000 t s ≡ true → stream_of s ≡ some x → reading_of t s ≡ some (read2000 t s x)
unfolding reading_of
reads-tree t s x o e = rw (o, e)

list-tree : (older newer s : List ℕ) (x : List Prop × Entries Prop) → is2000 older s ≡ true → stream_of s ≡ some x
    → difference_rows older newer s ≡ differences_from older newer s 0 (sites_of s x)
unfolding difference_rows sites
list-tree older newer s x o e = rw (o, e)

list-later : (older newer s : List ℕ) → is2000 older s ≡ false → difference_rows older newer s ≡ []
unfolding difference_rows
list-later older newer s o = rw o

-- no table is asked of a later stream
later_exits : (older newer s cs ps : List ℕ) → Comparable older newer s → ¬ (is2000 older s ≡ true) → exit older s cs ps ≡ exit newer s cs ps
unfolding exit outcome reading_of
later_exits older newer s cs ps c n =
    let two = c.successor in
    let o : is2000 older s ≡ false = not-true (is2000 older s) n in
    let o' : is2000 newer s ≡ false = sym (choice_same older newer s two) ∙ o in
    rw (two.older-formed, two.newer-formed, o, o')

-- the rows of both tables are the same, where none is listed
maps_same : (older newer s : List ℕ) (x : List Prop × Entries Prop) → length (differences_from older newer s 0 (sites_of s x)) ≡ 0
    → map (λ y. property_row (showing older s y)) (spots_of s x) ≡ map (λ y. property_row (showing newer s y)) (spots_of s x)
maps_same older newer s x e =
    ap (map (λ y. property_row (showing older s y))) (sym (sites-spots s x))
    ∙ map-map (λ y. property_row (showing older s y)) spot_of (sites_of s x)
    ∙ none-listed older newer s 0 (sites_of s x) e
    ∙ sym (map-map (λ y. property_row (showing newer s y)) spot_of (sites_of s x))
    ∙ ap (map (λ y. property_row (showing newer s y))) (sites-spots s x)

module _ (older newer s rows : List ℕ) (g : Given older newer s rows) (o : is2000 older s ≡ true) (x : List Prop × Entries Prop) (tree : stream_of s ≡ some x) where
  abbrev two : Successor older newer
  two = g.comparable.successor

  reads : reading_of older s ≡ some (read2000 older s x)
  reads = reads-tree older s x o tree

  reads' : reading_of newer s ≡ some (read2000 newer s x)
  reads' = reads-tree newer s x (sym (choice_same older newer s two) ∙ o) tree

  differing-tree : (cs ps cs' ps' : List ℕ) → (exit older s cs ps).answer.number ≡ 0 → (exit newer s cs' ps').answer.number ≡ 0
      → Differing older newer s (exit older s cs ps) (exit newer s cs' ps') (differences_exit older newer s rows)
  differing-tree cs ps cs' ps' h h' = differing-is older newer s rows cs ps cs' ps' g o x tree reads reads' h h'

  -- nothing listed: the property rows of both are the same, and all else is
  rows_same : length (difference_rows older newer s) ≡ 0 → property_rows (read2000 older s x) ≡ property_rows (read2000 newer s x)
  unfolding property_rows shown_at
  rows_same e =
      ap (map property_row) (properties-from older s x)
      ∙ map-map property_row (shown_at older s) (spots_of s x)
      ∙ maps_same older newer s x (ap length (sym (list-tree older newer s x o tree)) ∙ e)
      ∙ sym (ap (map property_row) (properties-from newer s x) ∙ map-map property_row (shown_at newer s) (spots_of s x))

  module _ (cs ps : List ℕ) where
    abbrev lent : Lent
    lent = record { controls = cs; properties = ps }

    same_but : SameBut older newer s lent lent (exit older s cs ps) (exit newer s cs ps)
    same_but = demand3.chosen-same_but older newer s lent lent two (record { of_controls = refl; of_properties = refl }) o

    newer-zero : (exit older s cs ps).answer.number ≡ 0 → (exit newer s cs ps).answer.number ≡ 0
    newer-zero h = ap (λ a. a.number) (sym same_but.alike.same_answer) ∙ h

    exits_same : length (difference_rows older newer s) ≡ 0 → exit older s cs ps ≡ exit newer s cs ps
    exits_same nothing-there = go (eqb (exit older s cs ps).answer.number 0) refl
      where
        go : (b : Bool) → eqb (exit older s cs ps).answer.number 0 ≡ b → exit older s cs ps ≡ exit newer s cs ps
        go true e =
            let h : (exit older s cs ps).answer.number ≡ 0 = eqb-true _ _ e in
            let a : exit older s cs ps ≡ exit_by_lem (read (read2000 older s x)) cs ps = seen_as older s cs ps x reads h in
            let b : exit newer s cs ps ≡ exit_by_lem (read (read2000 newer s x)) cs ps = seen_as newer s cs ps x reads' (newer-zero h) in
            let answers-same = same_but.alike.same_answer in
            let controls-same : (exit older s cs ps).controls ≡ (exit newer s cs ps).controls =
            ap (λ e. e.controls) a ∙ ap (λ rs. written rs cs) (control-rows-same older newer s two.same-header x) ∙ sym (ap (λ e. e.controls) b) in
            let properties-same : (exit older s cs ps).properties ≡ (exit newer s cs ps).properties =
            ap (λ e. e.properties) a ∙ ap (λ rs. written rs ps) (rows_same nothing-there) ∙ sym (ap (λ e. e.properties) b) in
            λ i. record { answer = answers-same i; controls = controls-same i; properties = properties-same i }
        go false e =
            let stay = same_but.alike.refusal (eqb-false _ _ e) in
            let answers-same = same_but.alike.same_answer in
            λ i. record { answer = answers-same i; controls = (stay.0.controls ∙ sym stay.1.controls) i; properties = (stay.0.properties ∙ sym stay.1.properties) i }

  -- both say the same in every room: nothing is listed, for in room enough a row that is listed differs
  abbrev wide_controls : List ℕ
  wide_controls = replicate (length (nodes_of x.1) * control_width) 0

  abbrev wide_properties : List ℕ
  wide_properties = replicate (length (spots_of s x) * property_width) 0

  enough : (exit older s wide_controls wide_properties).answer.number ≡ 0
  unfolding exit
  enough = ap (λ a. a.number) (sym (blob_right older s wide_controls wide_properties (counted 0 (read2000 older s x))
      (BlobAnswer.zero
      (record { not_long = g.comparable.not_long; formed = two.older-formed })
      reads
      (omega (arith, controls-many older s x, length-replicate {A = ℕ} (length (nodes_of x.1) * control_width) 0))
      (omega (arith, properties-many older s x, length-replicate {A = ℕ} (length (spots_of s x) * property_width) 0)))))

  nothing-listed : ((cs ps : List ℕ) → exit older s cs ps ≡ exit newer s cs ps) → (differences_exit older newer s rows).answer.first ≡ 0
  nothing-listed same = go (differences_exit older newer s rows).answer.first refl
    where
      go : (n : ℕ) → (differences_exit older newer s rows).answer.first ≡ n → n ≡ 0
      go zero e = refl
      go (suc n) e =
          let d = differing-tree wide_controls wide_properties wide_controls wide_properties enough (newer-zero wide_controls wide_properties enough) in
          let i : ℕ = word (listed (differences_exit older newer s rows) 0) 0 in
          let l : Lists (differences_exit older newer s rows) i = (0, omega arith, refl) in
          absurd (((d.exactly i).0 l).1 (ap (λ z. row_at property_width i z.properties) (same wide_controls wide_properties)))

-- the tree of an Access 2000 stream that is read
has-tree : (t s : List ℕ) (r : Reading) → is2000 t s ≡ true → reading_of t s ≡ some r → (x : List Prop × Entries Prop) × (stream_of s ≡ some x)
unfolding reading_of
has-tree t s r o e = go (stream_of s) refl (rw o at e)
  where
    go : (y : Option (List Prop × Entries Prop)) → stream_of s ≡ y → read_by t s y ≡ some r → (x : List Prop × Entries Prop) × (stream_of s ≡ some x)
    go none q e = absurd (none_some e)
    go (some x) q e = (x, q)

module _ (older newer s rows : List ℕ) (e : (differences_exit older newer s rows).answer.number ≡ 0) where
  abbrev its : Given older newer s rows
  its = given older newer s rows e

  differing : (cs ps cs' ps' : List ℕ) → is2000 older s ≡ true → (exit older s cs ps).answer.number ≡ 0 → (exit newer s cs' ps').answer.number ≡ 0
      → Differing older newer s (exit older s cs ps) (exit newer s cs' ps') (differences_exit older newer s rows)
  differing cs ps cs' ps' o h h' = let t = has-tree older s its.reading o its.is in differing-tree older newer s rows its o t.0 t.1 cs ps cs' ps' h h'

  later : ¬ (is2000 older s ≡ true) → (differences_exit older newer s rows).answer.first ≡ 0
  later o = many-listed older newer s rows its ∙ ap length (list-later older newer s (not-true (is2000 older s) o))

  nothing : ((differences_exit older newer s rows).answer.first ≡ 0) ↔ ((cs ps : List ℕ) → exit older s cs ps ≡ exit newer s cs ps)
  nothing = go (is2000 older s) refl
    where
      go : (b : Bool) → is2000 older s ≡ b → ((differences_exit older newer s rows).answer.first ≡ 0) ↔ ((cs ps : List ℕ) → exit older s cs ps ≡ exit newer s cs ps)
      go true o =
          let t = has-tree older s its.reading o its.is in (
            λ q cs ps. exits_same older newer s rows its o t.0 t.1 cs ps (sym (many-listed older newer s rows its) ∙ q),
            nothing-listed older newer s rows its o t.0 t.1,
          )
      go false o = let n : ¬ (is2000 older s ≡ true) = λ q. true≢false (sym q ∙ o) in (λ q cs ps. later_exits older newer s cs ps its.comparable n, λ same. later n)

pub differences : Differences
differences = record {
  judged = judged;
  answers = answers;
  rows_stay = rows_stay;
  after = λ older newer s rows e. after older newer s rows (given older newer s rows e);
  differing = λ older newer s rows cs ps cs' ps' e o h h'. differing older newer s rows e cs ps cs' ps' o h h';
  nothing = nothing;
  later = later;
}
