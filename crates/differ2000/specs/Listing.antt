-- What the functions that list differences ask and do. A list goes on a site at a time: its row is written where it fits, and counted.
use Rattle.std.specs.Prelude.{ℕ, ◌+◌, ◌*◌, ◌≤◌, ◌<◌, ◌≡◌, true, cond, List, [], ◌∷◌, map, leb, ltb, length}
use Rattle.std.proofs.Math.Option.{Option}
use Rattle.std.specs.Int.Bits.{bit_or}
use Rattle.rules.specs.Bytes.{u16}
use Rattle.rules.specs.Answer.{longest}
use Rattle.rules.specs.CodeTable.{well_formed_lem, Extends}
use Rattle.rules.specs.Tree.{Node}
use Rattle.rules.specs.Access2000.{Prop, run_at, stream_of}
use Rattle.rules.specs.Read2000.{ScopeKey, entry_key, property_in, spot_in}
use Rattle.rules.specs.Rows.{difference_width}
use Rattle.rules.specs.Differences.{Site, site_in, node_sites, sites_of, differs, difference_row}
use Rattle.propvalue.specs.Sized.{Sized}
use Rattle.rows.specs.Put.{put}
use Rattle.rows.specs.Acts.{Held}
use Rattle.rows.specs.Counting.{props_in}
use Rattle.coderows.specs.Look.{Finds}
use Rattle.run2000.specs.Runs.{prop_of}
use Rattle.run2000.specs.declared.Stored.{Stored}
use Rattle.shown2000.specs.declared.Scopes.{Scopes}
use Rattle.cursor.specs.Work.{Ran}
use Rattle.form2000.specs.Acts.{top_at}
use Rattle.differ2000.specs.declared.Difference.{Difference}
use Rattle.differ2000.specs.declared.Place.{Place}
use Rattle.differ2000.specs.declared.Scope.{Scope}

-- ---- a list, as far as it is written
pub record Listing : Type 0 where
  pub rows : List ℕ
  pub listed : ℕ
  pub property : ℕ

abbrev pub listing : List ℕ → ℕ → ℕ → Listing
listing rows listed property = record { rows = rows; listed = listed; property = property }

abbrev pub listing_at : List ℕ → Place → Listing
listing_at rows p = listing rows p.listed p.property

abbrev pub words : Difference → List ℕ
words r =
    r.property ∷ r.control ∷ r.code ∷ r.scope_kind ∷ r.scope_code ∷ r.older_id ∷ r.newer_id ∷ r.newer_mark ∷ r.start ∷ r.size ∷ []

-- row k is written where it fits
unfoldable pub put_fit : List ℕ → ℕ → List ℕ → List ℕ
put_fit rows k row = cond (leb (k * difference_width + difference_width) (length rows)) (put difference_width rows k (row ∷ [])) rows

-- a site more
unfoldable pub list_site : List ℕ → List ℕ → List ℕ → Site → Listing → Listing
list_site older newer s x st =
    cond (differs older newer s x.spot)
    (listing (put_fit st.rows st.listed (difference_row older newer s st.property x)) (st.listed + 1) (st.property + 1))
    (listing st.rows st.listed (st.property + 1))

unfoldable pub list_sites : List ℕ → List ℕ → List ℕ → List Site → Listing → Listing
list_sites older newer s [] st = st
list_sites older newer s (x ∷ xs) st = list_sites older newer s xs (list_site older newer s x st)

-- what is asked of the two tables
pub record Tables (older newer : List ℕ) : Type 0 where
  pub older-formed : well_formed_lem older ≡ true
  pub newer-formed : well_formed_lem newer ≡ true
  pub extends : Extends older newer

-- ---- a property
abbrev pub key_of : Scope → ScopeKey
key_of x = record { kind = x.kind; code = x.code }

-- a value within a stream that isn't too long, as long as its id tells, and a list that has room for numbers
pub record StoredReady (s : List ℕ) (from : Place) (p : Stored) : Type 0 where
  pub small : length s ≤ longest
  pub inside : p.start + p.size ≤ length s
  pub sized : Sized p.id p.size
  pub few : from.listed < longest

pub record UntiedReady (newer : List ℕ) (scope : Scope) (s : List ℕ) (from : Place) (p : Stored) : Type 0 where
  pub stored : StoredReady s from p
  pub formed : well_formed_lem newer ≡ true
  pub newer-rows : Finds newer scope.kind scope.code scope.newer

-- the row of a property that the older table doesn't tie
abbrev pub untied_row : List ℕ → Scope → List ℕ → Place → Stored → List ℕ
untied_row newer scope s from p =
    let q = property_in newer s (key_of scope) (prop_of p) in
    from.property ∷ from.control ∷ p.id ∷ scope.kind ∷ scope.code ∷ bit_or 0x8000 p.id ∷ q.id ∷ q.value.mark ∷ p.start ∷ p.size ∷ []

pub record UntiedDone (newer : List ℕ) (scope : Scope) (s rows : List ℕ) (from : Place) (p : Stored) (rows' : List ℕ) (r : ℕ) : Type 0 where
  pub is : listing rows' r (from.property + 1)
      ≡ cond (ltb (property_in newer s (key_of scope) (prop_of p)).id 0x8000)
      (listing (put_fit rows from.listed (untied_row newer scope s from p)) (from.listed + 1) (from.property + 1))
      (listing rows from.listed (from.property + 1))

-- a scope whose rows were found in both tables
pub record FoundScope (older newer : List ℕ) (scope : Scope) : Type 0 where
  pub tables : Tables older newer
  pub older-rows : Finds older scope.kind scope.code scope.older
  pub newer-rows : Finds newer scope.kind scope.code scope.newer

pub record PropertyReady (older newer : List ℕ) (scope : Scope) (s : List ℕ) (from : Place) (p : Stored) : Type 0 where
  pub stored : StoredReady s from p
  pub found : FoundScope older newer scope

abbrev pub site_of : Scope → ℕ → Prop → Site
site_of scope control q = site_in control (spot_in (key_of scope) q)

pub record PropertyDone (older newer : List ℕ) (scope : Scope) (s rows : List ℕ) (from : Place) (p : Stored) (rows' : List ℕ) (r : ℕ) : Type 0 where
  pub is : listing rows' r (from.property + 1) ≡ list_site older newer s (site_of scope from.control (prop_of p)) (listing_at rows from)

-- ---- a run
abbrev pub FewProps : Place → Option (List Prop × ℕ) → Type 0
FewProps from o = Held (λ x. from.property + length x.0 ≤ longest) o

pub record RunReady (older newer : List ℕ) (scope : Scope) (s : List ℕ) (from : Place) : Type 0 where
  pub found : FoundScope older newer scope
  pub small : length s ≤ longest
  pub few : FewProps from (run_at s from.at)
  pub listed-few : from.listed ≤ from.property

abbrev pub run_sites : ScopeKey → ℕ → List Prop → List Site
run_sites key control ps = map (site_in control) (map (spot_in key) ps)

abbrev pub run_list : List ℕ → List ℕ → List ℕ → ScopeKey → ℕ → List Prop → Listing → Listing
run_list older newer s key control ps st = list_sites older newer s (run_sites key control ps) st

pub record RunDone (older newer : List ℕ) (scope : Scope) (s rows : List ℕ) (from : Place) (rows' : List ℕ) (r : Place) : Type 0 where
  pub is : Ran (run_list older newer s (key_of scope) from.control) (run_at s from.at) (listing_at rows from) (listing_at rows' r) r.at

-- ---- an entry without its list
pub record Given (older newer s : List ℕ) : Type 0 where
  pub tables : Tables older newer
  pub small : length s ≤ longest

-- the tables that are looked through stay the same
pub record SameTables (older newer older' newer' : Scopes) : Type 0 where
  pub older-same : older'.table.now ≡ older.table.now
  pub newer-same : newer'.table.now ≡ newer.table.now

pub record NodeReady (older newer s : List ℕ) (from : Place) : Type 0 where
  pub known : Given older newer s
  pub inside : from.at + 1 < length s
  pub few : FewProps from (run_at s (from.at + 2))
  pub listed-few : from.listed ≤ from.property

-- by its number and its type
abbrev pub node_list : List ℕ → List ℕ → List ℕ → ℕ → ℕ → List Prop → Listing → Listing
node_list older newer s control type ps st = run_list older newer s (entry_key type) control ps st

pub record NodeDone (older newer s rows : List ℕ) (from : Place) (rows' : List ℕ) (r : Place) : Type 0 where
  pub is : Ran (node_list older newer s from.control (u16 s from.at)) (run_at s (from.at + 2)) (listing_at rows from) (listing_at rows' r) r.at

-- ---- the top list
abbrev pub top_list : List ℕ → List ℕ → List ℕ → ℕ → List (Node Prop) → Listing → Listing
top_list older newer s n xs st = list_sites older newer s (node_sites n xs) st

pub record TopReady (older newer s : List ℕ) (n : ℕ) (from : Place) : Type 0 where
  pub known : Given older newer s
  pub few : Held (λ y. from.property + (length y.0 + props_in y.0) ≤ longest) (top_at s n from.at)
  pub listed-few : from.listed ≤ from.property

-- the rows at exit, and how many are listed
pub record Ended (rows' : List ℕ) (r : ℕ) (st : Listing) : Type 0 where
  pub rows_are : rows' ≡ st.rows
  pub listed-is : r ≡ st.listed

pub record TopDone (older newer s : List ℕ) (n : ℕ) (rows : List ℕ) (from : Place) (rows' : List ℕ) (r : ℕ) : Type 0 where
  pub is : Held (λ y. Ended rows' r (top_list older newer s 0 y.0 (listing_at rows from))) (top_at s n from.at)

-- ---- the whole stream
pub record StreamReady (older newer s : List ℕ) : Type 0 where
  pub tables : Tables older newer
  pub small : length s ≤ longest
  pub there : Held (λ _. Unit {0}) (stream_of s)

pub record StreamDone (older newer s rows rows' : List ℕ) (r : ℕ) : Type 0 where
  pub is : Held (λ x. Ended rows' r (list_sites older newer s (sites_of s x) (listing rows 0 0))) (stream_of s)
