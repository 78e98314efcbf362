-- Worked joinings of two code tables: the bytes of a joined table, each refusal, and which of two refusals comes first.
use Prim.Native.Nat.{ℕ, zero, suc, ◌+◌}
use mathlib.Core.Path.{◌≡◌, refl}
use mathlib.Core.List.{List, [], ◌∷◌, ◌++◌}
use lib.ListN.{replicate}
use Rattle.rules.specs.Answer.{answer}
use Rattle.rules.specs.Texts.{TextExit, refuse}
use Rattle.rules.specs.Join.{join_exit}
use Rattle.rules.specs.Dump.{dump}
use Rattle.rules.proofs.OpenBytes.{bytes_open}
use Rattle.rules.proofs.OpenTables.{join_open}

-- ---- two tables, and both together
abbrev one : List ℕ
one =
    dump "2A 01  02 00  64 00"  -- layout 0x2A; one header code; two scopes
    ++ dump "00 00 00  01 00"  -- form: one row
    ++ dump "02 98 01  02 00"  -- entry 0x0198: two
    ++ dump "60  36 00  00"  -- of the form
    ++ dump "61  FF 7F  00"  -- of entry 0x0198
    ++ dump "DC  14 00  01"

abbrev other : List ℕ
other =
    dump "2A 01  02 00  64 00"
    ++ dump "00 00 00  03 00"  -- form: three rows
    ++ dump "02 64 00  00 00"  -- entry 0x0064: none
    ++ dump "05  01 01  04"  -- of the form
    ++ dump "60  36 00  00"  -- the row that both have
    ++ dump "FC  02 00  03"

abbrev both : List ℕ
both =
    dump "2A 01  03 00  64 00"
    ++ dump "00 00 00  03 00"  -- form: three rows
    ++ dump "02 64 00  00 00"  -- entry 0x0064: a scope without rows stays
    ++ dump "02 98 01  02 00"  -- entry 0x0198: two
    ++ dump "05  01 01  04"  -- of the form
    ++ dump "60  36 00  00"
    ++ dump "FC  02 00  03"
    ++ dump "61  FF 7F  00"  -- of entry 0x0198
    ++ dump "DC  14 00  01"

-- so many bytes 99
abbrev blank : ℕ → List ℕ
blank n = replicate n 99

-- written, with two bytes behind
abbrev wrote : List ℕ → ℕ → TextExit
wrote table size = record { answer = answer 0 size 0 0; out = table ++ blank 2 }

pub tables-join :
    (join_exit one other (blank 43) ≡ wrote both 41)
    × (join_exit other one (blank 43) ≡ wrote both 41)  -- in the other order
    × (join_exit one one (blank 30) ≡ wrote one 28)  -- with itself
    × (join_exit one other (blank 41) ≡ record { answer = answer 0 41 0 0; out = both })  -- the room just fills
    × (join_exit one other (blank 40) ≡ refuse 9 (blank 40))  -- a byte too few
    × (join_exit (dump "01 00  00 00") (dump "01 00  00 00") (blank 6) ≡ wrote (dump "01 00  00 00") 4)  -- no scope
unfolding bytes_open join_open
tables-join = (refl, refl, refl, refl, refl, refl)

-- ---- refused, in the order of the numbers: 8, 16, 17, 18, 9
-- a table of one scope with one row
abbrev row60 : List ℕ
row60 = dump "2A 00  01 00  00 00 00  01 00  60 36 00 00"

pub rows-differ :
    (join_exit row60 (dump "2A 00  01 00  00 00 00  01 00  60 37 00 00") (blank 9) ≡ refuse 17 (blank 9))  -- another target; 17, before 9
    × (join_exit row60 (dump "2A 00  01 00  00 00 00  01 00  60 36 01 00") (blank 99) ≡ refuse 17 (blank 99))  -- another high byte of it
    × (join_exit row60 (dump "2A 00  01 00  00 00 00  01 00  60 36 00 01") (blank 99) ≡ refuse 17 (blank 99))  -- another kind
    × (join_exit row60 (dump "2A 00  01 00  00 00 00  02 00  5F 01 00 00  60 37 00 00") (blank 99) ≡ refuse 17 (blank 99))  -- in the second row
    × ((join_exit row60 (dump "2A 00  01 00  01 00 00  01 00  60 37 00 00") (blank 99)).answer ≡ answer 0 22 0 0)  -- a report's row is no second row of a form's
    × ((join_exit row60 (dump "2A 00  01 00  02 00 00  01 00  60 37 00 00") (blank 99)).answer ≡ answer 0 22 0 0)  -- nor is that of entry 0x0000
unfolding bytes_open join_open
rows-differ = (refl, refl, refl, refl, refl, refl)

-- each with another row of 0x60: 16, before 17
pub heads_differ :
    (join_exit row60 (dump "2B 00  01 00  00 00 00  01 00  60 37 00 00") (blank 99) ≡ refuse 16 (blank 99))  -- another layout byte
    × (join_exit row60 (dump "2A 01  01 00  64 00  00 00 00  01 00  60 37 00 00") (blank 99) ≡ refuse 16 (blank 99))  -- a header code more
    × (join_exit (dump "2A 01  00 00  64 00") (dump "2A 01  00 00  64 01") (blank 99) ≡ refuse 16 (blank 99))  -- another high byte
    × (join_exit (dump "2A 02  00 00  64 00  65 00") (dump "2A 02  00 00  64 00  66 00") (blank 99) ≡ refuse 16 (blank 99))  -- another second code
    × (join_exit (dump "2A 02  00 00  64 00  65 00") (dump "2A 01  00 00  64 00") (blank 99) ≡ refuse 16 (blank 99))  -- a header code less
unfolding bytes_open join_open
heads_differ = (refl, refl, refl, refl, refl)

-- a byte more, in either: 8, before 16
pub unformed :
    (join_exit (row60 ++ dump "00") (dump "2B 00  00 00") (blank 99) ≡ refuse 8 (blank 99))
    × (join_exit row60 (dump "2B 00  00 00  00") (blank 99) ≡ refuse 8 (blank 99))
    × (join_exit [] [] [] ≡ refuse 8 [])
unfolding bytes_open join_open
unformed = (refl, refl, refl)

-- ---- how many scopes
-- n entries of no rows, from code k on
abbrev entries : ℕ → ℕ → List ℕ
entries zero k = []
entries (suc n) k = 2 ∷ k ∷ 0 ∷ 0 ∷ 0 ∷ entries n (k + 1)

-- a form with the one row 0x60 and n such entries
abbrev many : ℕ → ℕ → ℕ → List ℕ
many n k target = dump "2A 00" ++ (n + 1) ∷ dump "00  00 00 00  01 00" ++ entries n k ++ 0x60 ∷ target ∷ 0 ∷ 0 ∷ []

pub scopes-counted :
    (join_exit (many 63 0 5) (many 1 63 5) [] ≡ refuse 18 [])  -- 63 and 1 entries with the form that both have: 65 scopes. 18, before 9
    × (join_exit (many 62 0 5) (many 1 62 5) [] ≡ refuse 9 [])  -- 64 scopes stand
    × (join_exit (many 63 0 5) (many 63 0 5) [] ≡ refuse 9 [])  -- those that both have count once
    × (join_exit (many 63 0 5) (many 1 63 6) [] ≡ refuse 17 [])  -- 17, before 18
unfolding bytes_open join_open
scopes-counted = (refl, refl, refl, refl)
