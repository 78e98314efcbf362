-- A run and an entry, listed: what a walk needs to know of it.
use Prim.Native.Nat.{ℕ, ◌+◌, ◌≤◌}
use native.Mathlib.Omega.{arith}
use mathlib.Core.Path.{◌≡◌, refl, ap, ◌∙◌}
use mathlib.Core.List.{List}
use lib.ListN.{length}
use Rattle.rules.specs.Bytes.{u16}
use Rattle.rules.specs.Answer.{longest}
use Rattle.rules.specs.Access2000.{Prop, run_at}
use Rattle.rules.specs.Read2000.{entry_key}
use Rattle.coderows.specs.Look.{Finds}
use Rattle.coderows.specs.declared.Body.{Body}
use Rattle.run2000.specs.declared.Stored.{Stored}
use Rattle.shown2000.proofs.NextLaws.{Goes}
use Rattle.cursor.specs.Work.{Ran}
use Rattle.cursor.proofs.WorkLaws.{Work, held_as, ran_as}
use Rattle.form2000.proofs.Visits.{Running, run-start, run_asks, run_on}
use Rattle.differ2000.specs.declared.Place.{Place}
use Rattle.differ2000.specs.declared.Scope.{Scope}
use Rattle.differ2000.specs.Listing.{Listing, listing, listing_at, list_site, list_sites, key_of, site_of, PropertyReady, PropertyDone, RunReady, run_list, RunDone, NodeReady, NodeDone}
use Rattle.differ2000.proofs.ListingLaws.{site_grows}

-- ---- a run
-- a property's number fits, those of its run too; no more are listed than there were; the room is the same
pub record FewProps (old : Listing) (ps : List Prop) (st : Listing) : Type 0 where
  pub few : st.property + length ps ≤ longest
  pub listed-few : st.listed ≤ st.property
  pub same : length st.rows ≡ length old.rows

abbrev pub one_list : List ℕ → List ℕ → List ℕ → Scope → ℕ → Prop → Listing → Listing
one_list older newer s scope control q st = list_site older newer s (site_of scope control q) st

-- what the loop keeps
pub record Listed (older newer : List ℕ) (scope : Scope) (s : List ℕ) (control at : ℕ) (old : Listing) (p : ℕ) (st : Listing) : Type 0 where
  pub goes :
      Running (Ran (run_list older newer s (key_of scope) control) (run_at s at) old) (one_list older newer s scope control) (run_list older newer s (key_of scope) control) (FewProps old) s p st

module _ (older newer s : List ℕ) (scope : Scope) (control : ℕ) (old : Listing) where
  run_work : Work (one_list older newer s scope control) (run_list older newer s (key_of scope) control) (run_list older newer s (key_of scope) control) (FewProps old) (FewProps old)
  unfolding list_sites
  run_work = record {
    none_left = λ st. refl;
    one_more = λ q qs st. refl;
    ok-more = λ q qs st h.
        let g = site_grows older newer s (site_of scope control q) st in
        record { few = omega (arith, h.few, g.property-is); listed-few = omega (arith, h.listed-few, g.few, g.property-is); same = g.same ∙ h.same };
  }

pub listed_start : {older newer : List ℕ} {scope : Scope} {s rows : List ℕ} {from : Place} → RunReady older newer scope s from → Listed older newer scope s from.control from.at (listing_at rows from) from.at (listing_at rows from)
listed_start {older = older} {newer = newer} {scope = scope} {s = s} {rows = rows} {from = from} h =
    record {
      goes = run-start (run_work older newer s scope from.control (listing_at rows from))
          (held_as (λ x. from.property + length x.0 ≤ longest) (λ (x : List Prop × ℕ). FewProps (listing_at rows from) x.0 (listing_at rows from)) (run_at s from.at) h.few
          (λ x f. record { few = f; listed-few = h.listed-few; same = refl }));
    }

-- a property more
module _ {older newer : List ℕ} {scope : Scope} {s : List ℕ} {control at : ℕ} {old : Listing} {p : ℕ} {rows : List ℕ} {listed property : ℕ} (k : Listed older newer scope s control at old p (listing rows listed property))
    {q : Stored} (g : Goes s p q) where
  pub listed-few : property + 1 ≤ longest
  listed-few = run_asks k.goes g.on refl g.told (λ qs h. omega (arith, h.few))

  pub listed-ready : {from : Place} → RunReady older newer scope s from
      → PropertyReady older newer scope s (record { at = p; control = control; property = property; listed = listed }) q
  listed-ready h = record {
    stored = record {
      small = h.small;
      inside = g.inside;
      sized = g.sized;
      few = run_asks k.goes g.on refl g.told (λ qs f. omega (arith, f.few, f.listed-few));
    };
    found = h.found;
  }

  pub listed-on : {rows' : List ℕ} {n : ℕ} → PropertyDone older newer scope s rows (record { at = p; control = control; property = property; listed = listed }) q rows' n
      → Listed older newer scope s control at old (q.start + q.size) (listing rows' n (property + 1))
  listed-on d = record { goes = run_on k.goes g.on refl g.told (rw g.id-is d.is) }

-- ---- an entry
module _ {older newer s : List ℕ} {from : Place} (h : NodeReady older newer s from) {code : ℕ} (ce : code ≡ u16 s from.at)
    {inOlder inNewer : Body} (oe : Finds older 2 code inOlder) (ne : Finds newer 2 code inNewer) where
  abbrev scope : Scope
  scope = record { kind = 2; code = code; older = inOlder; newer = inNewer }

  abbrev run : Place
  run = record { at = from.at + 2; control = from.control; property = from.property; listed = from.listed }

  pub node-run : RunReady older newer scope s run
  node-run = record { found = record { tables = h.known.tables; older-rows = oe; newer-rows = ne }; small = h.known.small; few = h.few; listed-few = h.listed-few }

  pub node_done : {rows rows' : List ℕ} {r : Place} → RunDone older newer scope s rows run rows' r → NodeDone older newer s rows from rows' r
  node_done {rows = rows} d = record { is = ran_as d.is (λ ps w. w ∙ ap (λ (c : ℕ). run_list older newer s (entry_key c) from.control ps (listing_at rows from)) ce) }
