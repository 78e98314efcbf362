-- A text that is taken: what was counted is what its lines say, and the table that it says is well formed.
use Prim.Native.Nat.{ℕ, ◌+◌, ◌*◌, ◌≤◌, ◌<◌}
use native.Mathlib.Omega.{arith}
use mathlib.Core.Path.{◌≡◌, refl}
use mathlib.Core.Bool.{Bool, true, false, cond, ◌&&◌, ◌||◌}
use mathlib.Core.List.{List, [], ◌∷◌, map}
use lib.Dec.{leb, ltb, eqb}
use lib.ListN.{length}
use borrow.Author.Tests.{ltb-true, ltb-false, le-leb, lt-ltb, eqb-true, eqb-false}
use Rattle.rules.specs.Lists.{all, ascends, same, text}
use Rattle.rules.specs.CodeTable.{Tie, Scope, id_of, key_of, key, tie_ok, ties_ok, scope_ok, row_count_lem, well_formed_lem}
use Rattle.rules.proofs.ListLaws.{and_l, and_r, all_there}
use Rattle.joinlaws.proofs.TableBytesLaws.{Fits, length-table, table-formed}
use Rattle.joinlaws.proofs.JoinLaws.{code_fits_lem, Good, good_fits}
use Rattle.joinlaws.proofs.JoinedLaws.{at_most}
use Rattle.tablelines.specs.Faults.{unknown_word, two_digits_lem, four_digits, many_words, unknown_kind, no_layout, layout_first, header_late, header_order, many_headers, scope_order, many_scopes, row_early, id_order, id_high, target_high}
use Rattle.tablelines.specs.Words.{before, sign, word, after_word, lines_of, two_of, four_of, row_kind_of}
use Rattle.tablelines.specs.Items.{number_fault, unless, layout_item, header_item, plain_scope_item, entry_item, row_item, item_by, item_in, item_of, items_of}
use Rattle.tablelines.proofs.ItemLaws.{number_fits}
use Rattle.tablelines.specs.Items.{Item}
use Rattle.tablelines.specs.Items.{Nothing, Layout, Header, Scope as ScopeLine, Row, Bad}
use Rattle.tablemaking.specs.Judged.{on_layout, nothing_seen, with_layout, with_header, with_scope, with_row, after, header_fault, scope_fault, row_fault, below_layout, fault_of, broken, kept, judge_end, judge_from, judged}
use Rattle.std.proofs.Common.{Option, Some, None}
use Rattle.std.proofs.lemmas.Option.{none-some}
use Rattle.tablemaking.specs.Made.{by_part_lem, headers_of, rows_of, scopes_of, table_said}
use Rattle.tablemaking.specs.declared.Seen.{Seen}
use Rattle.tablemaking.specs.Judged.{Judged}

-- ---- the numbers of a line are small
unfoldable pub small : Item → Bool
small Nothing = true
small (Layout byte) = ltb byte 256
small (Header code) = ltb code 65536
small (ScopeLine kind code) = leb kind 2 && (eqb kind 2 || eqb code 0) && ltb code 65536
small (Row id target kind) = leb kind 4
small (Bad error) = true

-- an item after two tests that it passes
passed_small : (a b : Bool) (error error' : ℕ) (item : Item) → (b ≡ false → small item ≡ true) → small (cond a (Bad error) (cond b (Bad error') item)) ≡ true
unfolding small
passed_small true b error error' item h = refl
passed_small false true error error' item h = refl
passed_small false false error error' item h = h refl

-- a line of one number, whatever is made of it
number_small : (make : ℕ → Item) (number most digits : ℕ) (third : List ℕ) → (digits ≡ 0 → ⊥) → (number ≤ most → small (make number) ≡ true)
    → small (unless (number_fault number most digits third) (make number)) ≡ true
unfolding unless small
number_small make number most digits third d h = go (eqb fault 0) refl
  where
    fault : ℕ
    fault = number_fault number most digits third

    go : (b : Bool) → eqb fault 0 ≡ b → small (cond b (make number) (Bad fault)) ≡ true
    go true q = h (number_fits number most digits third d (eqb-true fault 0 q))
    go false q = refl

layout-small : (second third : List ℕ) → small (layout_item second third) ≡ true
unfolding layout_item small
layout-small second third = number_small Layout (two_of second) 255 two_digits_lem third (λ z. omega arith) (λ l. lt-ltb (two_of second) 256 (omega arith))

header-small : (second third : List ℕ) → small (header_item second third) ≡ true
unfolding header_item small
header-small second third = number_small Header (four_of second) 65535 four_digits third (λ z. omega arith) (λ l. lt-ltb (four_of second) 65536 (omega arith))

entry-small : (second third : List ℕ) → small (entry_item second third) ≡ true
unfolding entry_item small
entry-small second third = number_small (ScopeLine 2) (four_of second) 65535 four_digits third (λ z. omega arith) (λ l. lt-ltb (four_of second) 65536 (omega arith))

row_small : (first second third : List ℕ) (more : Bool) → small (row_item first second third more) ≡ true
unfolding row_item small
row_small first second third more = go (ltb 255 (two_of first)) more
  where
    rest : small (cond (ltb 65535 (four_of second)) (Bad four_digits) (cond (ltb 4 (row_kind_of third)) (Bad unknown_kind) (Row (two_of first) (four_of second) (row_kind_of third)))) ≡ true
    rest = passed_small (ltb 65535 (four_of second)) (ltb 4 (row_kind_of third)) four_digits unknown_kind (Row (two_of first) (four_of second) (row_kind_of third)) (λ e. le-leb (row_kind_of third) 4 (ltb-false 4 (row_kind_of third) e))

    go : (a b : Bool) → small (cond a (Bad unknown_word) (cond b (Bad many_words) (cond (ltb 65535 (four_of second)) (Bad four_digits) (cond (ltb 4 (row_kind_of third)) (Bad unknown_kind) (Row (two_of first) (four_of second) (row_kind_of third)))))) ≡ true
    go true b = refl
    go false true = refl
    go false false = rest

either-small : (b : Bool) (x y : Item) → small x ≡ true → small y ≡ true → small (cond b x y) ≡ true
either-small true x y f g = f
either-small false x y f g = g

form_small : (kind : ℕ) (second : List ℕ) → small (ScopeLine kind 0) ≡ true → small (plain_scope_item kind second) ≡ true
unfolding plain_scope_item small
form_small kind second h = either-small (ltb 0 (length second)) (Bad many_words) (ScopeLine kind 0) refl h

by-small : (first second third : List ℕ) (more : Bool) → small (item_by first second third more) ≡ true
unfolding item_by small
by-small first second third more =
    go (eqb (length first) 0) (same first (text "layout")) (same first (text "header")) (same first (text "form")) (same first (text "report")) (same first (text "entry"))
  where
    go : (a b c d e f : Bool)
        → small (cond a Nothing (cond b (layout_item second third) (cond c (header_item second third) (cond d (plain_scope_item 0 second) (cond e (plain_scope_item 1 second) (cond f (entry_item second third) (row_item first second third more))))))) ≡ true
    go true b c d e f = refl
    go false true c d e f = layout-small second third
    go false false true d e f = header-small second third
    go false false false true e f = form_small 0 second refl
    go false false false false true f = form_small 1 second refl
    go false false false false false true = entry-small second third
    go false false false false false false = row_small first second third more

lines_small : (lines : List (List ℕ)) → all small (map item_of lines) ≡ true
unfolding item_of item_in all
lines_small [] = refl
lines_small (line ∷ lines) =
    let s : List ℕ = before sign line in
    rw (by-small (word s) (word (after_word s)) (word (after_word (after_word s))) (ltb 0 (length (word (after_word (after_word (after_word s))))))) (lines_small lines)

pub items-small : (s : List ℕ) → all small (items_of s) ≡ true
unfolding items_of
items-small s = lines_small (lines_of s)

-- ---- what a rule that isn't broken says
-- one test is passed
passed : (b : Bool) (error fault : ℕ) → (error ≡ 0 → ⊥) → cond b error fault ≡ 0 → (b ≡ false) × (fault ≡ 0)
passed true error fault n e = absurd (n e)
passed false error fault n e = (refl, e)

below_kept : (seen : Seen) (fault : ℕ) → below_layout seen fault ≡ 0 → fault ≡ 0
unfolding below_layout
below_kept seen fault = go seen.layout
  where
    go : (o : Option ℕ) → on_layout o layout_first (λ byte. fault) ≡ 0 → fault ≡ 0
    go None e = absurd (omega arith)
    go (Some byte) e = e

record HeaderKept (seen : Seen) (code : ℕ) : Type 0 where
  no-scope : seen.scopes ≡ 0
  ascend : seen.least_header ≤ code
  few : seen.headers < 4

header-kept : (seen : Seen) (code : ℕ) → header_fault seen code ≡ 0 → HeaderKept seen code
unfolding header_fault
header-kept seen code e =
    let a = passed (ltb 0 seen.scopes) header_late _ (λ z. omega arith) e in
    let b = passed (ltb code seen.least_header) header_order _ (λ z. omega arith) a.1 in
    let c = passed (ltb 3 seen.headers) many_headers 0 (λ z. omega arith) b.1 in
    let h = ltb-false 0 seen.scopes a.0 in
    let k = ltb-false 3 seen.headers c.0 in
    record { no-scope = omega arith; ascend = ltb-false code seen.least_header b.0; few = omega arith }

record ScopeKept (seen : Seen) (number : ℕ) : Type 0 where
  ascend : seen.least_key ≤ number
  few : seen.scopes < 64

scope_kept : (seen : Seen) (number : ℕ) → scope_fault seen number ≡ 0 → ScopeKept seen number
unfolding scope_fault
scope_kept seen number e =
    let a = passed (ltb number seen.least_key) scope_order _ (λ z. omega arith) e in
    let b = passed (ltb 63 seen.scopes) many_scopes 0 (λ z. omega arith) a.1 in
    let k = ltb-false 63 seen.scopes b.0 in
    record { ascend = ltb-false number seen.least_key a.0; few = omega arith }

record RowKept (seen : Seen) (id target : ℕ) : Type 0 where
  in_scope : seen.scopes ≡ 0 → ⊥
  low : id ≤ 0xFC
  ascend : seen.least_id ≤ id
  low-target : target < 0x8000

row_kept : (seen : Seen) (id target : ℕ) → row_fault seen id target ≡ 0 → RowKept seen id target
unfolding row_fault
row_kept seen id target e =
    let a = passed (eqb seen.scopes 0) row_early _ (λ z. omega arith) e in
    let b = passed (ltb 0xFC id) id_high _ (λ z. omega arith) a.1 in
    let c = passed (ltb id seen.least_id) id_order _ (λ z. omega arith) b.1 in
    let d = passed (ltb 0x7FFF target) target_high 0 (λ z. omega arith) c.1 in
    let k = ltb-false 0x7FFF target d.0 in
    record { in_scope = eqb-false seen.scopes 0 a.0; low = ltb-false 0xFC id b.0; ascend = ltb-false id seen.least_id c.0; low-target = omega arith }

-- ---- what is judged is what the lines say
-- header codes below n others, scopes, rows, and how many there are together: in order, and in their limits
pub record HeadersKept (n least : ℕ) (hs : List ℕ) (total : ℕ) : Type 0 where
  pub counted : total ≡ n + length hs
  pub few : n ≤ 4 → total ≤ 4
  pub ascend : ascends least hs ≡ true
  pub fit : all (λ (c : ℕ). ltb c 65536) hs ≡ true

pub record ScopesKept (n least : ℕ) (ss : List Scope) (total : ℕ) : Type 0 where
  pub counted : total ≡ n + length ss
  pub few : n ≤ 64 → total ≤ 64
  pub ascend : ascends least (map key ss) ≡ true
  pub ok : all scope_ok ss ≡ true
  pub fit : all code_fits_lem ss ≡ true

-- rows of the scope above, if there is one, and of those that follow
pub record RowsKept (scopes n least : ℕ) (rs : List Tie) (ss : List Scope) (total : ℕ) : Type 0 where
  pub counted : total ≡ n + length rs + row_count_lem ss
  pub none : scopes ≡ 0 → length rs ≡ 0
  pub ascend : ascends least (map id_of rs) ≡ true
  pub ok : all tie_ok rs ≡ true

-- what follows below what was seen
pub record Kept (seen : Seen) (hs : List ℕ) (rs : List Tie) (ss : List Scope) (j : Judged) : Type 0 where
  pub headers : HeadersKept seen.headers seen.least_header hs j.headers
  pub scopes : ScopesKept seen.scopes seen.least_key ss j.scopes
  pub rows : RowsKept seen.scopes seen.rows seen.least_id rs ss j.rows
  pub layout : ((byte : ℕ) → seen.layout ≡ Some byte → byte < 256) → j.layout < 256

abbrev pub KeptLines : Seen → List Item → Judged → Type 0
KeptLines seen items j = Kept seen (headers_of items) (rows_of items) (scopes_of items) j

kept-end : (seen : Seen) (lines : ℕ) → (judge_end seen lines).error ≡ 0 → KeptLines seen [] (judge_end seen lines)
unfolding judge_end headers_of rows_of scopes_of row_count_lem ascends all
kept-end seen lines = go seen.layout refl
  where
    go : (o : Option ℕ) → seen.layout ≡ o → (on_layout o (broken no_layout (lines + 1)) (kept seen)).error ≡ 0 → KeptLines seen [] (on_layout o (broken no_layout (lines + 1)) (kept seen))
    go None q e = absurd (omega arith)
    go (Some byte) q e = record {
      headers = record { counted = omega arith; few = λ h. h; ascend = refl; fit = refl };
      scopes = record { counted = omega arith; few = λ h. h; ascend = refl; ok = refl; fit = refl };
      rows = record { counted = omega arith; none = λ z. refl; ascend = refl; ok = refl };
      layout = λ h. h byte q;
    }

module _ (seen : Seen) (items : List Item) (j : Judged) where
  kept-header : (code : ℕ) → ltb code 65536 ≡ true → HeaderKept seen code → KeptLines (with_header seen code) items j → KeptLines seen (Header code ∷ items) j
  unfolding by_part_lem headers_of rows_of scopes_of ascends all
  kept-header code small k K =
      let H = K.headers in
      record {
        headers = record {
          counted = let a = H.counted in omega arith;
          few = λ h. H.few (let a = k.few in omega arith);
          ascend = rw (le-leb seen.least_header code k.ascend) H.ascend;
          fit = rw small H.fit;
        };
        scopes = K.scopes;
        rows = K.rows;
        layout = K.layout;
      }

  kept-scope : (kind code : ℕ) → small (ScopeLine kind code) ≡ true → ScopeKept seen (key_of kind code) → KeptLines (with_scope seen (key_of kind code)) items j → KeptLines seen (ScopeLine kind code ∷ items) j
  unfolding by_part_lem small headers_of rows_of scopes_of row_count_lem ascends all ties_ok
  kept-scope kind code s k K =
      let S = K.scopes in
      let R = K.rows in
      let low : leb kind 2 ≡ true = search (and_l, and_r) in
      let its-code : (eqb kind 2 || eqb code 0) ≡ true = search (and_l, and_r) in
      let fits : ltb code 65536 ≡ true = search (and_l, and_r) in
      record {
        headers = K.headers;
        scopes = record {
          counted = let a = S.counted in omega arith;
          few = λ h. S.few (let a = k.few in omega arith);
          ascend = rw (le-leb seen.least_key (key_of kind code) k.ascend) S.ascend;
          ok = rw (low, its-code, R.ascend, R.ok) S.ok;
          fit = rw fits S.fit;
        };
        rows = record { counted = let a = R.counted in omega arith; none = λ z. refl; ascend = refl; ok = refl };
        layout = K.layout;
      }

  kept_row : (id target kind : ℕ) → leb kind 4 ≡ true → RowKept seen id target → KeptLines (with_row seen id) items j → KeptLines seen (Row id target kind ∷ items) j
  unfolding by_part_lem headers_of rows_of scopes_of ascends all
  kept_row id target kind s k K =
      let R = K.rows in
      record {
        headers = K.headers;
        scopes = K.scopes;
        rows = record {
          counted = let a = R.counted in omega arith;
          none = λ z. absurd (k.in_scope z);
          ascend = rw (le-leb seen.least_id id k.ascend) R.ascend;
          ok = rw (le-leb id 0xFC k.low, lt-ltb target 0x8000 k.low-target, s) R.ok;
        };
        layout = K.layout;
      }

  -- a line that says none of these
  kept-layout : (byte : ℕ) → ltb byte 256 ≡ true → KeptLines (with_layout seen byte) items j → KeptLines seen (Layout byte ∷ items) j
  unfolding by_part_lem headers_of rows_of scopes_of
  kept-layout byte s K = record {
    headers = K.headers;
    scopes = K.scopes;
    rows = K.rows;
    layout = λ h. K.layout (λ b q. let l = ltb-true byte 256 s in let e : byte ≡ b = cc in omega arith);
  }

-- one line more, of which no rule is broken
kept_line : (seen : Seen) (item : Item) (items : List Item) (j : Judged) → small item ≡ true → fault_of seen item ≡ 0 → KeptLines (after seen item) items j → KeptLines seen (item ∷ items) j
unfolding after fault_of small by_part_lem headers_of rows_of scopes_of
kept_line seen Nothing items j s e K = K
kept_line seen (Layout byte) items j s e K = kept-layout seen items j byte s K
kept_line seen (Header code) items j s e K = kept-header seen items j code s (header-kept seen code (below_kept seen (header_fault seen code) e)) K
kept_line seen (ScopeLine kind code) items j s e K = kept-scope seen items j kind code s (scope_kept seen (key_of kind code) (below_kept seen (scope_fault seen (key_of kind code)) e)) K
kept_line seen (Row id target kind) items j s e K = kept_row seen items j id target kind s (row_kept seen id target (below_kept seen (row_fault seen id target) e)) K
kept_line seen (Bad error) items j s e K = K

pub kept_lines : (seen : Seen) (lines : ℕ) (items : List Item) → all small items ≡ true → (judge_from seen lines items).error ≡ 0 → KeptLines seen items (judge_from seen lines items)
unfolding judge_from all
kept_lines seen lines [] s e = kept-end seen lines e
kept_lines seen lines (item ∷ items) s e = go (eqb (fault_of seen item) 0) refl (kept_lines (after seen item) (lines + 1) items (and_r (small item) (all small items) s)) e
  where
    onward : Judged
    onward = judge_from (after seen item) (lines + 1) items

    go : (b : Bool) → eqb (fault_of seen item) 0 ≡ b → (onward.error ≡ 0 → KeptLines (after seen item) items onward)
        → (cond b onward (broken (fault_of seen item) (lines + 1))).error ≡ 0 → KeptLines seen (item ∷ items) (cond b onward (broken (fault_of seen item) (lines + 1)))
    go true q rec h = kept_line seen item items onward (and_l (small item) (all small items) s) (eqb-true (fault_of seen item) 0 q) (rec h)
    go false q rec h = absurd (eqb-false (fault_of seen item) 0 q h)

-- ---- a text that is taken
abbrev pub headers_in : List ℕ → List ℕ
headers_in s = headers_of (items_of s)

abbrev pub scopes_in : List ℕ → List Scope
scopes_in s = scopes_of (items_of s)

-- what was counted is what its lines say
pub record Counted (s : List ℕ) : Type 0 where
  pub headers : (judged s).headers ≡ length (headers_in s)
  pub scopes : (judged s).scopes ≡ length (scopes_in s)
  pub rows : (judged s).rows ≡ row_count_lem (scopes_in s)
  pub layout : (judged s).layout < 256

module _ (s : List ℕ) (e : (judged s).error ≡ 0) where
  taken : KeptLines nothing_seen (items_of s) (judged s)
  unfolding judged
  taken = kept_lines nothing_seen 0 (items_of s) (items-small s) e

  pub counts : Counted s
  counts =
      let K = taken in
      let above = K.rows.none refl in
      let a = K.headers.counted in
      let b = K.scopes.counted in
      let c = K.rows.counted in
      record { headers = omega arith; scopes = omega arith; rows = omega arith; layout = K.layout (λ b q. absurd (none-some b q)) }

  -- no row stands above the first scope
  pub no-rows-above : length (rows_of (items_of s)) ≡ 0
  no-rows-above = taken.rows.none refl

  pub few-headers : length (headers_in s) ≤ 4
  few-headers = let a = counts.headers in let b = taken.headers.few (omega arith) in omega arith

  pub few-scopes : length (scopes_in s) ≤ 64
  few-scopes = let a = counts.scopes in let b = taken.scopes.few (omega arith) in omega arith

  pub said_good : Good (scopes_in s)
  said_good = record { keys = taken.scopes.ascend; ok = taken.scopes.ok }

  pub said_fits : Fits (headers_in s) (scopes_in s)
  said_fits =
      good_fits (headers_in s) (scopes_in s) said_good few-scopes (λ c m. ltb-true c 65536 (all_there (λ (n : ℕ). ltb n 65536) (headers_in s) c taken.headers.fit m))
      (λ x m. ltb-true x.code 65536 (all_there code_fits_lem (scopes_in s) x taken.scopes.fit m))

  -- the table that it says
  pub said-formed : well_formed_lem (table_said s) ≡ true
  unfolding table_said
  said-formed = table-formed (judged s).layout (headers_in s) (scopes_in s) said_fits few-headers few-scopes taken.headers.ascend said_good.keys said_good.ok

  pub said-short : length (table_said s) ≤ 65100
  said-short = at_most (table_said s) said-formed

  pub said-length : length (table_said s) ≡ 4 + 2 * (judged s).headers + 5 * (judged s).scopes + 4 * (judged s).rows
  unfolding table_said
  said-length = let c = counts in omega (arith, length-table (judged s).layout (headers_in s) (scopes_in s))
