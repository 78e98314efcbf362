-- Where a table first breaks a rule: its counts, that its contents are there, its header codes, its scopes, its length, its rows are looked at in this order.
use Rattle.std.specs.Prelude.{ℕ, zero, suc, ◌+◌, ◌*◌, ◌-◌, ◌/◌, ◌%◌, ◌^◌, ◌≤◌, ◌<◌, ◌≡◌, ◌&&◌, cond, Option, MatchOption, List, ltb, eqb, length}
use Rattle.rules.specs.Bytes.{byte, u16}
use Rattle.rules.specs.CodeTable.{key_of, header_count, scope_count, contents_at, bodies_at, scopes, scopes_at, row_count_lem, well_formed_lem}
use Rattle.tablebreak.specs.declared.Break.{Break}

-- ---- the rules by number, 0 for none
-- "number of header codes, 0 to 4; u16 number of scopes, 0 to 64; the header codes (u16, strictly ascending)"
abbrev pub many_headers : ℕ
many_headers = 1

abbrev pub many_scopes : ℕ
many_scopes = 2

abbrev pub header_order : ℕ
header_order = 3

-- "kind (0 form, 1 report, 2 entry), u16 code (0 for kinds 0 and 1), ..; strictly ascending by kind, then code"
abbrev pub scope_kind_lem : ℕ
scope_kind_lem = 4

abbrev pub scope_code_lem : ℕ
scope_code_lem = 5

abbrev pub scope_order : ℕ
scope_order = 6

-- "id at most 0xFC, strictly ascending; u16 target below 0x8000; kind 0 Number, 1 Text, 2 Guid, 3 Double, 4 Bytes"
abbrev pub id_order : ℕ
id_order = 7

abbrev pub id_high : ℕ
id_high = 8

abbrev pub target_high : ℕ
target_high = 9

abbrev pub row_kind : ℕ
row_kind = 10

-- all that the contents count is there, and "No byte more."
abbrev pub too_short_lem : ℕ
too_short_lem = 11

abbrev pub too_long_lem : ℕ
too_long_lem = 12

-- so a table has at most 65,100 bytes, however much its contents count
abbrev pub over_longest : ℕ
over_longest = 13

abbrev pub longest : ℕ
longest = 65100

-- ---- a rule broken, or none
abbrev pub broken : ℕ → ℕ → ℕ → ℕ → Break
broken rule at found before = record { rule = rule; at = at; scope = 0; kind = 0; code = 0; row = 0; found = found; before = before }

abbrev pub unbroken : Break
unbroken = broken 0 0 0 0

-- the same in a scope, and in a row of it
abbrev pub placed : Break → ℕ → ℕ → ℕ → ℕ → Break
placed b scope kind code row = record { rule = b.rule; at = b.at; scope = scope; kind = kind; code = code; row = row; found = b.found; before = b.before }

-- the first of two
unfoldable pub or_else : Break → Break → Break
or_else a b = cond (eqb a.rule 0) b a

-- what the code finds: a break, or that there is none
pub record Names (x b : Break) : Type 0 where
  pub is : x ≡ b
  pub some : x.rule ≡ 0 → ⊥

abbrev pub Told : Option Break → Break → Type 0
Told o b = MatchOption o (b ≡ unbroken) (λ x. Names x b)

-- ---- header codes
-- n of them from a place on; the one before is least - 1
unfoldable pub header_break : List ℕ → ℕ → ℕ → ℕ → Break
header_break t at least zero = unbroken
header_break t at least (suc n) =
    cond (ltb (u16 t at) least) (broken header_order at (u16 t at) (least - 1)) (header_break t (at + 2) (u16 t at + 1) n)

-- ---- scopes
-- one of the contents; the key of the one before is least - 1
unfoldable pub order_rule : ℕ → ℕ → ℕ → Break
order_rule at key least = cond (ltb key least) (broken scope_order at ((least - 1) / 65536) ((least - 1) % 65536)) unbroken

unfoldable pub scope_rule : ℕ → ℕ → ℕ → ℕ → Break
scope_rule at kind code least =
    cond (ltb 2 kind) (broken scope_kind_lem at kind 0)
    (cond (ltb kind 2 && ltb 0 code) (broken scope_code_lem (at + 1) code 0)
    (order_rule at (key_of kind code) least))

-- n of them from a place on, numbered from `number` on
unfoldable pub scope_break : List ℕ → ℕ → ℕ → ℕ → ℕ → Break
scope_break t at least number zero = unbroken
scope_break t at least number (suc n) =
    or_else (placed (scope_rule at (byte t at) (u16 t (at + 1)) least) number (byte t at) (u16 t (at + 1)) 0)
    (scope_break t (at + 5) (key_of (byte t at) (u16 t (at + 1)) + 1) (number + 1) n)

-- ---- rows
unfoldable pub row_rule : ℕ → ℕ → ℕ → ℕ → ℕ → Break
row_rule at id target kind least =
    cond (ltb id least) (broken id_order at id (least - 1))
    (cond (ltb 0xFC id) (broken id_high at id 0)
    (cond (ltb 0x7FFF target) (broken target_high (at + 1) target 0)
    (cond (ltb 4 kind) (broken row_kind (at + 3) kind 0)
    unbroken)))

-- n rows from a place on, numbered from `number` on, of a scope
unfoldable pub row_break : List ℕ → ℕ → ℕ → ℕ → ℕ → ℕ → ℕ → ℕ → Break
row_break t at least scope kind code number zero = unbroken
row_break t at least scope kind code number (suc n) =
    or_else (placed (row_rule at (byte t at) (u16 t (at + 1)) (byte t (at + 3)) least) scope kind code number)
    (row_break t (at + 4) (byte t at + 1) scope kind code (number + 1) n)

-- the rows of n scopes, whose contents start at `at` and whose bodies at `body`
unfoldable pub rows_break : List ℕ → ℕ → ℕ → ℕ → ℕ → Break
rows_break t at body number zero = unbroken
rows_break t at body number (suc n) =
    or_else (row_break t body 0 number (byte t at) (u16 t (at + 1)) 1 (u16 t (at + 3)))
    (rows_break t (at + 5) (body + 4 * u16 t (at + 3)) (number + 1) n)

-- ---- the table
-- it ends where its contents say
abbrev pub end_of : List ℕ → ℕ
end_of t = bodies_at t + 4 * row_count_lem (scopes t)

abbrev pub short : List ℕ → ℕ → Break
short t end = broken too_short_lem (length t) (end - length t) 0

unfoldable pub body_break : List ℕ → Break
body_break t =
    cond (ltb (length t) (end_of t)) (short t (end_of t))
    (cond (ltb (end_of t) (length t)) (broken too_long_lem (end_of t) (length t - end_of t) 0)
    (rows_break t (contents_at t) (bodies_at t) 1 (scope_count t)))

unfoldable pub searched : List ℕ → Break
searched t =
    cond (ltb (length t) 4) (short t 4)
    (cond (ltb 4 (header_count t)) (broken many_headers 1 (header_count t) 0)
    (cond (ltb 64 (scope_count t)) (broken many_scopes 2 (scope_count t) 0)
    (cond (ltb (length t) (bodies_at t)) (short t (bodies_at t))
    (or_else (header_break t 4 0 (header_count t))
    (or_else (scope_break t (contents_at t) 0 1 (scope_count t))
    (body_break t))))))

unfoldable pub break_of : List ℕ → Break
break_of t = cond (well_formed_lem t) unbroken (cond (ltb longest (length t)) (broken over_longest longest 0 0) (searched t))

-- ---- what the code asks and hands on
-- the numbers of a break have 32 bits, and those of its place
pub record BreakFits (at found before : ℕ) : Type 0 where
  pub at-fits : at < 2 ^ 32
  pub found-fits : found < 2 ^ 32
  pub before-fits : before < 2 ^ 32

pub record PlaceFits (scope kind code row : ℕ) : Type 0 where
  pub scope-fits : scope < 2 ^ 32
  pub kind_fits : kind < 2 ^ 32
  pub code_fits : code < 2 ^ 32
  pub row_fits : row < 2 ^ 32

-- a scope of the contents was read, and so was a row
pub record ScopeFits (at kind code least : ℕ) : Type 0 where
  pub near : at + 1 < 2 ^ 32
  pub kind_fits : kind < 256
  pub code_fits : code < 65536
  pub least_fits : least < 2 ^ 32

pub record RowFits (at id target kind least : ℕ) : Type 0 where
  pub near : at + 3 < 2 ^ 32
  pub id-fits : id < 256
  pub target_fits : target < 65536
  pub kind_fits : kind < 256
  pub least_fits : least < 2 ^ 32

-- the n rows of a scope are in reach
pub record RowsReady (start n scope kind code : ℕ) : Type 0 where
  pub near : start + 4 * n + 4 < 2 ^ 32
  pub place : PlaceFits scope kind code 0

-- n scopes and their bodies are in reach
pub record ScopesReady (start bodies n : ℕ) : Type 0 where
  pub near : start + 5 * n + 2 < 2 ^ 32
  pub bodies_near : bodies + 262144 * n + 4 < 2 ^ 32

-- the contents were read, and are there
pub record BodyReady (t : List ℕ) (contents bodies n : ℕ) : Type 0 where
  pub contents-are : contents ≡ contents_at t
  pub bodies_are : bodies ≡ bodies_at t
  pub scopes-are : n ≡ scope_count t
  pub few : n ≤ 64
  pub there : bodies ≤ length t
  pub short : length t ≤ longest

-- where the bodies of n scopes end
pub record BodiesEnd (t : List ℕ) (start bodies n r : ℕ) : Type 0 where
  pub is : r ≡ bodies + 4 * row_count_lem (scopes_at t start bodies n)
  pub small : r < 2 ^ 32
