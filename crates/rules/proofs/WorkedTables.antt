-- Worked code tables at their limits: those that are well formed, then those that aren't.
use Prim.Native.Nat.{ℕ, zero, suc, ◌+◌}
use mathlib.Core.Path.{◌≡◌, refl}
use mathlib.Core.Bool.{true, false}
use mathlib.Core.List.Memᴰ
use mathlib.Core.List.{List, [], ◌∷◌, ◌++◌}
use mathlib.Core.Option.{none, some}
use Rattle.rules.specs.CodeTable.{Tie, Holds, Extends, key_of, key, layout, header, well_formed_lem, row_of}
use Rattle.rules.specs.Dump.{dump}
use Rattle.rules.proofs.OpenBytes.{bytes_open}
use Rattle.rules.proofs.OpenTables.{tables_open}

-- m scopes of the codes n, n + 1, .., each without rows
abbrev many : ℕ → ℕ → List ℕ
many n zero = []
many n (suc m) = 2 ∷ n ∷ 0 ∷ 0 ∷ 0 ∷ many (n + 1) m

pub formed-tables :
    (well_formed_lem (dump "01 00  00 00") ≡ true)  -- no scope
    × (well_formed_lem (dump "01 04  00 00  01 00  02 00  00 01  01 01") ≡ true)  -- four header codes
    × (well_formed_lem (dump "01 01  00 00  00 00") ≡ true)  -- the header code 0
    × (well_formed_lem (dump "01 00  40 00" ++ many 1 64) ≡ true)  -- 64 scopes
    × (well_formed_lem (dump "01 00  01 00  02 07 00  02 00  00 00 00 00  FC FF 7F 04") ≡ true)  -- the first and the last row
    × (well_formed_lem (dump "01 00  01 00  00 00 00  02 00  00 00 00 00  FC FF 7F 04") ≡ true)  -- of a form
    × (well_formed_lem (dump "01 00  01 00  01 00 00  02 00  00 00 00 00  FC FF 7F 04") ≡ true)  -- of a report
    × (well_formed_lem (dump "01 00  03 00  00 00 00  00 00  01 00 00  00 00  02 00 00  00 00") ≡ true)  -- ascending by kind
    × (well_formed_lem (dump "01 00  02 00  02 01 00  00 00  02 00 01  00 00") ≡ true)  -- then by code
unfolding bytes_open tables_open
formed-tables = (refl, refl, refl, refl, refl, refl, refl, refl, refl)

pub unformed_tables :
    (well_formed_lem [] ≡ false)
    × (well_formed_lem (dump "01 00  00") ≡ false)  -- too short
    × (well_formed_lem (dump "01 00  00 00  00") ≡ false)  -- a byte more
    × (well_formed_lem (dump "01 05  00 00  01 00  02 00  03 00  04 00  05 00") ≡ false)  -- five header codes
    × (well_formed_lem (dump "01 02  00 00  01 00  01 00") ≡ false)  -- one twice
    × (well_formed_lem (dump "01 00  41 00" ++ many 1 65) ≡ false)  -- 65 scopes
    × (well_formed_lem (dump "01 00  01 00  03 00 00  02 00  00 00 00 00  FC FF 7F 04") ≡ false)  -- kind 3
    × (well_formed_lem (dump "01 00  01 00  00 07 00  02 00  00 00 00 00  FC FF 7F 04") ≡ false)  -- a form with a code
    × (well_formed_lem (dump "01 00  01 00  01 07 00  02 00  00 00 00 00  FC FF 7F 04") ≡ false)  -- a report with one
    × (well_formed_lem (dump "01 00  01 00  02 07 00  02 00  FC FF 7F 04  00 00 00 00") ≡ false)  -- ids descend
    × (well_formed_lem (dump "01 00  01 00  02 07 00  02 00  00 00 00 00  00 00 00 00") ≡ false)  -- an id twice
    × (well_formed_lem (dump "01 00  01 00  02 07 00  02 00  00 00 00 00  FD 00 00 00") ≡ false)  -- id 0xFD
    × (well_formed_lem (dump "01 00  01 00  02 07 00  02 00  00 00 00 00  FC 00 80 00") ≡ false)  -- target 0x8000
    × (well_formed_lem (dump "01 00  01 00  02 07 00  02 00  00 00 00 00  FC 00 00 05") ≡ false)  -- kind 5
    × (well_formed_lem (dump "01 00  01 00  02 07 00  02 00  00 00 00 00  FC 00 00") ≡ false)  -- a byte missing
    × (well_formed_lem (dump "01 00  01 00  02 07 00  02 00  00 00 00 00  FC FF 7F 04  00") ≡ false)  -- a byte more
    × (well_formed_lem (dump "01 00  02 00  02 07 00  00 00  02 07 00  00 00") ≡ false)  -- a scope twice
    × (well_formed_lem (dump "01 00  02 00  02 00 00  00 00  01 00 00  00 00") ≡ false)  -- kinds descend
    × (well_formed_lem (dump "01 00  02 00  02 00 01  00 00  02 01 00  00 00") ≡ false)  -- codes descend
    × (well_formed_lem (dump "01 00  01 00  00 00 01  00 00") ≡ false)  -- a form with the code 0x0100
    × (well_formed_lem (dump "01 00  01 00  01 00 01  00 00") ≡ false)  -- a report with it
    × (well_formed_lem (dump "01 02  00 00  02 00  01 00") ≡ false)  -- header codes descend
    × (well_formed_lem (dump "01 02  00 00  01 01  02 00") ≡ false)  -- by their high bytes
    × (well_formed_lem (dump "01 00  02 00  02 01 00  01 00  02 02 00  01 00  05 00 00 00  FD 00 00 00") ≡ false)  -- id 0xFD in the second scope
    × (well_formed_lem (dump "01 00  02 00  00 00 00  00 00  00 00 00  00 00") ≡ false)  -- two forms
    × (well_formed_lem (dump "01 00  00 01") ≡ false)  -- 256 scopes
    × (well_formed_lem (dump "01 00  01 00  02 07 00  00 01") ≡ false)  -- 256 rows
unfolding bytes_open tables_open
unformed_tables = (refl, refl, refl, refl, refl, refl, refl, refl, refl, refl, refl, refl, refl, refl, refl, refl, refl, refl, refl, refl, refl, refl, refl, refl, refl, refl, refl)

-- ---- look-up
-- form, report and entries 0x0000, 0x0164, each with a row of the id 0x40, and the report with one more
abbrev scoped : List ℕ
scoped =
    dump "01 01  04 00  63 0A"  -- one header code; four scopes
    ++ dump "00 00 00  01 00"  -- form: one row
    ++ dump "01 00 00  02 00"  -- report: two
    ++ dump "02 00 00  01 00"  -- entry 0x0000: one
    ++ dump "02 64 01  01 00"  -- entry 0x0164: one
    ++ dump "40  10 01  00"  -- of the form: target 0x0110
    ++ dump "40  11 02  01"  -- of the report
    ++ dump "41  12 03  02"
    ++ dump "40  13 04  03"  -- of entry 0x0000
    ++ dump "40  14 05  04"  -- of entry 0x0164

pub scopes_looked_up :
    (row_of scoped 0 0 0x40 ≡ some (record { id = 0x40; target = 0x0110; kind = 0 }))
    × (row_of scoped 0 0 0x41 ≡ none)
    × (row_of scoped 1 0 0x40 ≡ some (record { id = 0x40; target = 0x0211; kind = 1 }))
    × (row_of scoped 1 0 0x41 ≡ some (record { id = 0x41; target = 0x0312; kind = 2 }))
    × (row_of scoped 2 0 0x40 ≡ some (record { id = 0x40; target = 0x0413; kind = 3 }))
    × (row_of scoped 2 0x0164 0x40 ≡ some (record { id = 0x40; target = 0x0514; kind = 4 }))
    × (row_of scoped 2 0x64 0x40 ≡ none)  -- a scope's code has two bytes
    × (header scoped ≡ 0x0A63 ∷ [])
    × (layout scoped ≡ 1)
    × (well_formed_lem scoped ≡ true)
unfolding bytes_open tables_open
scopes_looked_up = (refl, refl, refl, refl, refl, refl, refl, refl, refl, refl)

-- the first kind's largest code is below the next kind's least
pub keys : (key_of 0 0xFFFF ≡ 0xFFFF) × (key_of 1 0 ≡ 0x10000) × (key (record { kind = 2; code = 0x64; rows = [] }) ≡ 0x20064)
keys = (refl, refl, refl)

-- a report's scope is no form's; where a table that isn't well formed has two scopes or two rows for one, the first is found
pub first_found :
    (row_of (dump "01 00  01 00  01 00 00  01 00  40 11 00 00") 0 0 0x40 ≡ none)
    × (row_of (dump "01 00  02 00  02 64 00  01 00  02 64 00  01 00  40 11 00 00  40 12 00 00") 2 0x64 0x40 ≡ some (record { id = 0x40; target = 0x11; kind = 0 }))
    × (row_of (dump "01 00  01 00  02 64 00  02 00  40 11 00 00  40 12 00 00") 2 0x64 0x40 ≡ some (record { id = 0x40; target = 0x11; kind = 0 }))
unfolding bytes_open tables_open
first_found = (refl, refl, refl)

-- ---- what a table holds, said without looking up: the second row of the report's scope
abbrev tie : ℕ → ℕ → ℕ → Tie
tie id target kind = record { id = id; target = target; kind = kind }

pub held : Holds scoped 1 0 (tie 0x41 0x0312 2)
unfolding bytes_open tables_open
held = record {
  scope = record { kind = 1; code = 0; rows = tie 0x40 0x0211 1 ∷ tie 0x41 0x0312 2 ∷ [] };
  listed = Memᴰ.tail (Memᴰ.head refl);
  its-kind = refl;
  its-code = refl;
  row = Memᴰ.tail (Memᴰ.head refl);
}

-- a table that has learned the form's scope holds every row of the one before it
pub extended : Extends (dump "01 00  01 00  02 64 00  01 00  60 36 00 00") (dump "01 00  02 00  00 00 00  01 00  02 64 00  01 00  31 2D 00 00  60 36 00 00")
unfolding bytes_open tables_open
extended kind code r h = record { scope = h.scope; listed = Memᴰ.tail h.listed; its-kind = h.its-kind; its-code = h.its-code; row = h.row }
