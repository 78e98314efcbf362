-- The whole stream: the object's run and the top list are listed in two goes.
use Prim.Native.Nat.{ℕ, ◌+◌, ◌*◌, ◌≤◌}
use native.Mathlib.Omega.{arith}
use mathlib.Core.Path.{◌≡◌, sym, ap, ◌∙◌}
use mathlib.Core.List.{List, map}
use mathlib.Core.Option.{some}
use lib.ListN.{length, length-map}
use Rattle.std.proofs.Common.{Option, Some}
use Rattle.rules.specs.Tree.{nodes_of}
use Rattle.rules.specs.Access2000.{head_at_lem}
use Rattle.rules.specs.Read2000.{object_key, spot_in}
use Rattle.rules.specs.Rows.{difference_width, written}
use Rattle.rules.specs.Differences.{Site, site_in, no_control, node_sites, sites_of, sites_in, sites, differences_from}
use Rattle.rules.specs.Told.{told_as}
use Rattle.rows.proofs.PutLaws.{written-put}
use Rattle.rows.proofs.CountingLaws.{nodes_of_lem, props_of_lem}
use Rattle.coderows.specs.Look.{Finds}
use Rattle.coderows.specs.declared.Body.{Body}
use Rattle.walk2000.specs.Told as walked
use Rattle.walk2000.specs.declared.Opens.{Opens}
use Rattle.form2000.specs.Acts.{top_at}
use Rattle.cursor.specs.Work.{RanOf}
use Rattle.cursor.proofs.WorkLaws.{ran_some}
use Rattle.form2000.proofs.Whole.{Known, known, parts, top-is, few}
use Rattle.differ2000.specs.declared.Place.{Place}
use Rattle.differ2000.specs.declared.Scope.{Scope}
use Rattle.differ2000.specs.Listing.{Listing, listing, listing_at, list_sites, run_sites, run_list, top_list, RunReady, RunDone, Ended, TopReady, TopDone, StreamReady, StreamDone}
use Rattle.differ2000.proofs.ListingLaws.{sites-append, sites_grow, listed-many, listed-rows}

module _ {older newer s : List ℕ} (h : StreamReady older newer s) where
  pub is : Known s (λ _. Unit {0})
  is = known (λ _. Unit {0}) h.there

  -- the object's scope, and its rows in either table
  module _ {kind : ℕ} (ke : kind ≡ (object_key s).kind) {inOlder inNewer : Body} (oe : Finds older kind 0 inOlder) (ne : Finds newer kind 0 inNewer) where
    abbrev scope : Scope
    scope = record { kind = kind; code = 0; older = inOlder; newer = inNewer }

    abbrev from : Place
    from = record { at = 10; control = 0xFFFFFFFF; property = 0; listed = 0 }

    pub own-ready : RunReady older newer scope s from
    own-ready = record {
      found = record { tables = h.tables; older-rows = oe; newer-rows = ne };
      small = h.small;
      few = rw (parts is).run (omega (arith, few older s is.tree is.reads, h.small));
      listed-few = omega arith;
    }

    module _ {rows now : List ℕ} {own : Place} (d : RunDone older newer scope s rows from now own) where
      abbrev own-sites : List Site
      own-sites = map (site_in no_control) (map (spot_in (object_key s)) is.tree.0)

      own-run : RanOf (run_list older newer s (record { kind = kind; code = 0 }) no_control) (listing rows 0 0) (listing_at now own) own.at (is.tree.0, (parts is).place)
      own-run = ran_some (parts is).run d.is

      pub own-end : own.at ≡ (parts is).place
      own-end = own-run.next-is

      own-list : listing_at now own ≡ list_sites older newer s own-sites (listing rows 0 0)
      unfolding object_key
      own-list = own-run.is ∙ ap (λ (k : ℕ). list_sites older newer s (run_sites (record { kind = k; code = 0 }) no_control is.tree.0) (listing rows 0 0)) ke

      own-many : (own.property ≡ length is.tree.0) × (own.listed ≤ own.property)
      own-many =
          let g = sites_grow older newer s own-sites (listing rows 0 0) in
          let m : length own-sites ≡ length is.tree.0 = simp length-map in
          let p : own.property ≡ _ = ap (λ (x : Listing). x.property) own-list in
          let q : own.listed ≡ _ = ap (λ (x : Listing). x.listed) own-list in
          let z : 0 ≤ 0 = omega arith in (omega (arith, p, g.property-is, m), omega (arith, p, q, g.few z))

      -- the top list stands after it
      module _ {o : Option Opens} (he : o ≡ told_as walked.head (head_at_lem s own.at)) {n next : ℕ} (k : o ≡ Some (Opens.Listed n next)) where
        there : top_at s n next ≡ some (nodes_of is.tree.1, length s)
        there = top-is is own-end he k

        abbrev start : Place
        start = record { at = next; control = 0; property = own.property; listed = own.listed }

        pub top_ready : TopReady older newer s n start
        top_ready =
            let x = is.tree in
            record {
              known = record { tables = h.tables; small = h.small };
              few = rw there (omega (arith, few older s x is.reads, h.small, nodes_of_lem x.1, props_of_lem x.1, own-many.0));
              listed-few = own-many.1;
            }

        pub top-done : {rows' : List ℕ} {r : ℕ} → TopDone older newer s n now start rows' r → StreamDone older newer s rows rows' r
        unfolding sites_of
        top-done {rows' = rows'} {r = r} w =
            let x = is.tree in
            let v : Ended rows' r (top_list older newer s 0 (nodes_of x.1) (listing_at now own)) = rw there at w.is in
            let e = ap (list_sites older newer s (node_sites 0 (nodes_of x.1))) own-list ∙ sym (sites-append older newer s own-sites (node_sites 0 (nodes_of x.1)) (listing rows 0 0)) in
            record { is = rw is.reads (record { rows_are = v.rows_are ∙ ap (λ (l : Listing). l.rows) e; listed-is = v.listed-is ∙ ap (λ (l : Listing). l.listed) e }) }

-- ---- what was listed, in the terms of the definition
pub record WholeList (older newer s rows rows' : List ℕ) (r : ℕ) : Type 0 where
  pub many : r ≡ length (differences_from older newer s 0 (sites s))
  pub all_fit : length (differences_from older newer s 0 (sites s)) * difference_width ≤ length rows → rows' ≡ written (differences_from older newer s 0 (sites s)) rows

pub whole-list : {older newer s rows rows' : List ℕ} {r : ℕ} → StreamReady older newer s → StreamDone older newer s rows rows' r → WholeList older newer s rows rows' r
unfolding sites
whole-list {older = older} {newer = newer} {s = s} {rows = rows} {rows' = rows'} {r = r} h d =
    let k = known (λ _. Unit {0}) h.there in
    let v : Ended rows' r (list_sites older newer s (sites_of s k.tree) (listing rows 0 0)) = rw k.reads at d.is in
    let e : sites s ≡ sites_of s k.tree = ap (sites_in s) k.reads in
    let u : Ended rows' r (list_sites older newer s (sites s) (listing rows 0 0)) = rw e v in
    let those = differences_from older newer s 0 (sites s) in
    record {
      many = u.listed-is ∙ listed-many older newer s (sites s) rows 0 0 ∙ omega arith;
      all_fit = λ f.
          let m : (0 + length those) * difference_width ≤ length rows = omega (arith, f) in
          u.rows_are ∙ listed-rows older newer s (sites s) rows 0 0 m ∙ written-put difference_width rows those;
    }
