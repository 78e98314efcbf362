-- Whether the lines of a text make a code table, and if not, which line breaks which rule.
use Rattle.std.specs.Prelude.{ℕ, ◌+◌, ◌≡◌, cond, Option, Some, None, Result, Ok, Err, MatchResult, List, [], ◌∷◌, ltb, eqb}
use Rattle.rules.specs.CodeTable.{key_of}
use Rattle.tablelines.specs.Faults.{no_layout, layout_first, layout_twice, header_late, header_order, many_headers, scope_order, many_scopes, row_early, id_order, id_high, target_high}
use Rattle.tablelines.specs.Faults.{number_lem}
use Rattle.tablelines.specs.Items.{Item, Nothing, Layout, Header, Scope, Row, Bad, items_of}
use Rattle.tablelines.specs.declared.faults.Fault.{Fault}
use Rattle.tablemaking.specs.declared.Seen.{Seen}
use Rattle.tablemaking.specs.declared.Counts.{Counts}
use Rattle.tablemaking.specs.declared.Refusal.{Refusal}

-- ---- what the lines above say
abbrev pub nothing_seen : Seen
nothing_seen = record { layout = None; headers = 0; least_header = 0; scopes = 0; least_key = 0; rows = 0; least_id = 0 }

-- a layout line, a header line, a scope, a row more
abbrev pub with_layout : Seen → ℕ → Seen
with_layout seen byte = record {
  layout = Some byte;
  headers = seen.headers;
  least_header = seen.least_header;
  scopes = seen.scopes;
  least_key = seen.least_key;
  rows = seen.rows;
  least_id = seen.least_id;
}

abbrev pub with_header : Seen → ℕ → Seen
with_header seen code = record {
  layout = seen.layout;
  headers = seen.headers + 1;
  least_header = code + 1;
  scopes = seen.scopes;
  least_key = seen.least_key;
  rows = seen.rows;
  least_id = seen.least_id;
}

abbrev pub with_scope : Seen → ℕ → Seen
with_scope seen key = record {
  layout = seen.layout;
  headers = seen.headers;
  least_header = seen.least_header;
  scopes = seen.scopes + 1;
  least_key = key + 1;
  rows = seen.rows;
  least_id = 0;
}

abbrev pub with_row : Seen → ℕ → Seen
with_row seen id = record {
  layout = seen.layout;
  headers = seen.headers;
  least_header = seen.least_header;
  scopes = seen.scopes;
  least_key = seen.least_key;
  rows = seen.rows + 1;
  least_id = id + 1;
}

unfoldable pub after : Seen → Item → Seen
after seen Nothing = seen
after seen (Layout byte) = with_layout seen byte
after seen (Header code) = with_header seen code
after seen (Scope kind code) = with_scope seen (key_of kind code)
after seen (Row id target kind) = with_row seen id
after seen (Bad error) = seen

-- ---- the rules, in the order in which they are tried; 0 says that none is broken
-- "number of header codes, 0 to 4"; "the header codes (u16, strictly ascending)"
unfoldable pub header_fault : Seen → ℕ → ℕ
header_fault seen code =
    cond (ltb 0 seen.scopes) header_late
    (cond (ltb code seen.least_header) header_order
    (cond (ltb 3 seen.headers) many_headers
    0))

-- "number of scopes, 0 to 64"; "strictly ascending by kind, then code"
unfoldable pub scope_fault : Seen → ℕ → ℕ
scope_fault seen key =
    cond (ltb key seen.least_key) scope_order
    (cond (ltb 63 seen.scopes) many_scopes
    0)

-- "id at most 0xFC, strictly ascending; u16 target below 0x8000"
unfoldable pub row_fault : Seen → ℕ → ℕ → ℕ
row_fault seen id target =
    cond (eqb seen.scopes 0) row_early
    (cond (ltb 0xFC id) id_high
    (cond (ltb id seen.least_id) id_order
    (cond (ltb 0x7FFF target) target_high
    0)))

-- x where no layout is named, or what f makes of it
abbrev pub on_layout : {A : Type 0} → Option ℕ → A → (ℕ → A) → A
on_layout None x f = x
on_layout (Some byte) x f = f byte

-- a layout stands above every other line, and no second one
unfoldable pub below_layout : Seen → ℕ → ℕ
below_layout seen fault = on_layout seen.layout layout_first (λ byte. fault)

unfoldable pub layout_fault : Seen → ℕ
layout_fault seen = on_layout seen.layout 0 (λ byte. layout_twice)

unfoldable pub fault_of : Seen → Item → ℕ
fault_of seen Nothing = 0
fault_of seen (Layout byte) = layout_fault seen
fault_of seen (Header code) = below_layout seen (header_fault seen code)
fault_of seen (Scope kind code) = below_layout seen (scope_fault seen (key_of kind code))
fault_of seen (Row id target kind) = below_layout seen (row_fault seen id target)
fault_of seen (Bad error) = error

-- ---- the first line that breaks a rule
-- what the table of a text has, or the line that breaks a rule and which
pub record Judged : Type 0 where
  pub error : ℕ
  pub line : ℕ
  pub layout : ℕ
  pub headers : ℕ
  pub scopes : ℕ
  pub rows : ℕ

abbrev pub broken : ℕ → ℕ → Judged
broken error line = record { error = error; line = line; layout = 0; headers = 0; scopes = 0; rows = 0 }

abbrev pub kept : Seen → ℕ → Judged
kept seen layout = record { error = 0; line = 0; layout = layout; headers = seen.headers; scopes = seen.scopes; rows = seen.rows }

-- the text has ended below so many lines
unfoldable pub judge_end : Seen → ℕ → Judged
judge_end seen lines = on_layout seen.layout (broken no_layout (lines + 1)) (kept seen)

unfoldable pub judge_from : Seen → ℕ → List Item → Judged
judge_from seen lines [] = judge_end seen lines
judge_from seen lines (item ∷ items) =
    cond (eqb (fault_of seen item) 0) (judge_from (after seen item) (lines + 1) items) (broken (fault_of seen item) (lines + 1))

unfoldable pub judged : List ℕ → Judged
judged s = judge_from nothing_seen 0 (items_of s)

-- ---- what the code hands on
-- what the lines say with one more, or the rule that it breaks
pub record Next (seen : Seen) (item : Item) (r : Seen) : Type 0 where
  pub kept : fault_of seen item ≡ 0
  pub is : r ≡ after seen item

abbrev pub Follows : Seen → Item → Result Seen Fault → Type 0
Follows seen item r = MatchResult r (Next seen item) (λ fault. number_lem fault ≡ fault_of seen item)

abbrev pub kept_lem : Counts → Judged
kept_lem c = record { error = 0; line = 0; layout = c.layout; headers = c.headers; scopes = c.scopes; rows = c.rows }

abbrev pub judged_lem : Result Counts Refusal → Judged
judged_lem (Ok counts) = kept_lem counts
judged_lem (Err refusal) = broken (number_lem refusal.fault) refusal.line
