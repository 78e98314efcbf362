-- The entries that are reported of the top list, listed: what a walk needs to know of it.
use Prim.Native.Nat.{ℕ, ◌+◌, ◌≤◌, ◌<◌}
use native.Mathlib.Omega.{arith}
use mathlib.Core.Path.{◌≡◌, refl, sym, ap, subst, ◌∙◌}
use mathlib.Core.List.{List, map}
use lib.ListN.{length, length-map}
use Rattle.rules.specs.Answer.{longest}
use Rattle.rules.specs.Tree.{Node, no_parent, is_reported}
use Rattle.rules.specs.Access2000.{Prop}
use Rattle.rules.specs.Read2000.{node_spots}
use Rattle.rules.specs.Differences.{site_in, node_sites}
use Rattle.rows.specs.Acts.{Nodes}
use Rattle.rows.specs.Counting.{props_in}
use Rattle.cursor.specs.Cursors.{cursor, Passed}
use Rattle.cursor.specs.Work.{RanOf, Ran}
use Rattle.cursor.specs.declared.Cursor.{Cursor}
use Rattle.cursor.proofs.LeftLaws.{left}
use Rattle.cursor.proofs.VisitLaws.{EntryWork}
use Rattle.cursor.proofs.WorkLaws.{held_as}
use Rattle.cursor2000.specs.Steps.{step_at}
use Rattle.form2000.specs.Acts.{top_at}
use Rattle.form2000.proofs.Visits.{Visiting, top-all, top_start, top_asks, its}
use Rattle.differ2000.specs.declared.Place.{Place}
use Rattle.differ2000.specs.Listing.{Listing, listing, listing_at, Given, NodeReady, node_list, top_list, TopReady, Ended, TopDone}
use Rattle.differ2000.proofs.ListingLaws.{none-listed, sites-append, sites_grow}

-- n controls and the properties so far, with those that are left, are few; no more are listed than there were; the room is the same
pub record FewLeft (old : Listing) (n : ℕ) (xs : List (Node Prop)) (st : Listing) : Type 0 where
  pub few : n + st.property + (length xs + props_in xs) ≤ longest
  pub listed-few : st.listed ≤ st.property
  pub same : length st.rows ≡ length old.rows

top_work : (older newer s : List ℕ) (old : Listing) → EntryWork (node_list older newer s) (top_list older newer s) (FewLeft old)
unfolding node_sites props_in
top_work older newer s old = record {
  visit = λ n. record {
    none_left = λ st. none-listed older newer s st;
    one_more = λ x xs st. sites-append older newer s (map (site_in n) (node_spots x)) (node_sites (n + 1) xs) st;
    ok-more = λ x xs st h.
        let g = sites_grow older newer s (map (site_in n) (node_spots x)) st in
        let m : length (map (site_in n) (node_spots x)) ≡ length x.props = simp length-map in
        record { few = omega (arith, h.few, g.property-is, m); listed-few = g.few h.listed-few; same = g.same ∙ h.same };
  };
}

-- what the loop keeps, where o is all that there is to visit
pub record Going (older newer s : List ℕ) (o : Nodes Prop) (old : Listing) (a : List ℕ) (c : Cursor) (i : ℕ) (st : Listing) : Type 0 where
  pub goes : Visiting (Ran (top_list older newer s 0) o old) (node_list older newer s) (top_list older newer s) (FewLeft old) s a c i st

pub going_start : {older newer s : List ℕ} {n : ℕ} {rows : List ℕ} {from : Place} (a : List ℕ) {b r : Cursor} → length a ≡ 512
    → TopReady older newer s n from → b ≡ cursor from.at 0 n no_parent → Passed (step_at s) is_reported b r
    → Going older newer s (left (step_at s) 0 a r) (listing_at rows from) a r 0 (listing_at rows from)
going_start {older = older} {newer = newer} {s = s} {n = n} {rows = rows} {from = from} a {r = r} l h e k =
    let old = listing_at rows from in
    subst (λ o. Going older newer s o old a r 0 old) (sym (top-all s n from.at a e k))
    (record {
      goes = top_start old a (top_work older newer s old) l
          (held_as (λ y. from.property + (length y.0 + props_in y.0) ≤ longest) (λ (y : List (Node Prop) × ℕ). FewLeft old 0 y.0 old) (top_at s n from.at) h.few
          (λ y f. record { few = omega (arith, f); listed-few = h.listed-few; same = refl })) e k;
    })

module _ {older newer s : List ℕ} {o : Nodes Prop} {old : Listing} {a : List ℕ} {c : Cursor} {control : ℕ} {rows : List ℕ} {listed property : ℕ}
    (g : Going older newer s o old a c control (listing rows listed property)) (l : 0 < c.left) where
  pub going-few : control < longest
  going-few = top_asks g.goes l (λ xs h. omega (arith, h.few))

  pub going-ready : Given older newer s → NodeReady older newer s (record { at = c.at; control = control; property = property; listed = listed })
  unfolding props_in
  going-ready known = top_asks g.goes l (λ xs h. record { known = known; inside = (its g.goes l).inside; few = rw (its g.goes l).run_is (omega (arith, h.few)); listed-few = h.listed-few })

pub going_done : {older newer s : List ℕ} {n : ℕ} {rows : List ℕ} {from : Place} {o : Nodes Prop} {rows' : List ℕ} {listed property next : ℕ}
    → o ≡ top_at s n from.at → Ran (top_list older newer s 0) o (listing_at rows from) (listing rows' listed property) next → TopDone older newer s n rows from rows' listed
going_done {older = older} {newer = newer} {s = s} {n = n} {rows = rows} {from = from} {rows' = rows'} {listed = listed} {property = property} {next = next} e r =
    record {
      is = held_as (RanOf (top_list older newer s 0) (listing_at rows from) (listing rows' listed property) next) (λ (y : List (Node Prop) × ℕ). Ended rows' listed (top_list older newer s 0 y.0 (listing_at rows from)))
          (top_at s n from.at) (rw e at r.held) (λ y h. record { rows_are = ap (λ (x : Listing). x.rows) h.is; listed-is = ap (λ (x : Listing). x.listed) h.is });
    }
