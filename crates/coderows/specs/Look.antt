-- The answers of the code, read in the terms of document 01's code table, and its look-ups as they go on from the middle.
use Rattle.std.specs.Prelude.{ℕ, zero, suc, ◌+◌, ◌*◌, ◌^◌, ◌≤◌, ◌<◌, ◌≡◌, List, [], ◌∷◌, map, true, eqb, get_or, Option, Some}
use Rattle.std.proofs.Math.Option as maybe
use Rattle.rules.specs.Lists.{find, ascends}
use Rattle.rules.specs.Bytes.{byte, u16}
use Rattle.rules.specs.CodeTable as table
use Rattle.rules.specs.CodeTable.{id_of, key_of, ties_at, scope_count, contents_at, bodies_at, well_formed_lem, is_tied, scope_rows}
use Rattle.rules.specs.Told.{told, told_as}
use Rattle.coderows.specs.declared.Body.{Body}
use Rattle.coderows.specs.declared.Tie.{Tie}

abbrev pub Formed : List ℕ → Type 0
Formed t = well_formed_lem t ≡ true

-- ---- looking up
-- the first of xs whose number is k
abbrev pub find_by : {A : Type 0} → (A → ℕ) → ℕ → List A → maybe.Option A
find_by f k xs = find (λ x. eqb (f x) k) xs

-- n things, each a step of w further on
unfoldable pub items_at : {A : Type 0} → (ℕ → A) → ℕ → ℕ → ℕ → List A
items_at g w at zero = []
items_at g w at (suc n) = g at ∷ items_at g w (at + w) n

-- the numbers of n scopes, from first on
abbrev pub indexes : ℕ → ℕ → List ℕ
indexes first n = items_at (λ i. i) 1 first n

-- what the contents say of scope i: its kind and code as one number, its row count, and the row counts of those before it
abbrev pub key_at : List ℕ → ℕ → ℕ → ℕ
key_at t contents i = key_of (byte t (contents + 5 * i)) (u16 t (contents + 5 * i + 1))

abbrev pub count_at : List ℕ → ℕ → ℕ → ℕ
count_at t contents i = u16 t (contents + 5 * i + 3)

unfoldable pub counts_to : List ℕ → ℕ → ℕ → ℕ
counts_to t contents zero = 0
counts_to t contents (suc i) = counts_to t contents i + count_at t contents i

-- the three words of scope i in a list of scopes whose bodies start at `bodies`
pub record Words (t xs : List ℕ) (contents bodies i : ℕ) : Type 0 where
  pub key : get_or xs (3 * i) 0 ≡ key_at t contents i
  pub start : get_or xs (3 * i + 1) 0 ≡ bodies + 4 * counts_to t contents i
  pub count : get_or xs (3 * i + 2) 0 ≡ count_at t contents i

-- a list of the scopes of a table, 64 at most
abbrev pub Listed : List ℕ → List ℕ → Type 0
Listed t xs = (i : ℕ) → i < scope_count t → i < 64 → Words t xs (contents_at t) (bodies_at t) i

-- the keys of n scopes ascend
abbrev pub KeysAscend : List ℕ → ℕ → ℕ → ℕ → Type 0
KeysAscend t contents first n = ascends 0 (map (key_at t contents) (indexes first n)) ≡ true

-- what a search among n listed scopes asks
pub record Wanted (n wanted : ℕ) : Type 0 where
  pub few : n ≤ 64
  pub key-small : wanted < 2 ^ 32

pub record Seeks (t : List ℕ) (contents n wanted : ℕ) (r : Option ℕ) : Type 0 where
  pub is : KeysAscend t contents 0 n → r ≡ told (find_by (key_at t contents) wanted (indexes 0 n))
  pub inside : (i : ℕ) → r ≡ Some i → i < n

-- where the scopes are listed too
pub record SeeksListed (t xs : List ℕ) (n wanted : ℕ) (r : Option ℕ) : Type 0 where
  pub is : Listed t xs → n ≡ scope_count t → KeysAscend t (contents_at t) 0 n → r ≡ told (find_by (key_at t (contents_at t)) wanted (indexes 0 n))
  pub inside : (i : ℕ) → r ≡ Some i → i < n

-- the rows of a body that was found
abbrev pub found_body : ℕ → ℕ → Body
found_body start count = record { start = start; count = count }

abbrev pub no_rows : Body
no_rows = found_body 0 0

unfoldable pub body_rows : List ℕ → Body → List table.Tie
body_rows t body = ties_at t body.start body.count

-- what is said of the id of a row
abbrev pub tie_of : table.Tie → Tie
tie_of r = record { target = r.target; kind = r.kind }

abbrev pub as_row : maybe.Option table.Tie → Option Tie
as_row o = told_as tie_of o

-- the ids of the rows ascend
abbrev pub Sorted : List table.Tie → Type 0
Sorted rs = ascends 0 (map id_of rs) ≡ true

-- a body of a well-formed table holds the scope's rows, in the order of their ids
pub record Finds (t : List ℕ) (kind code : ℕ) (body : Body) : Type 0 where
  pub rows : Formed t → body_rows t body ≡ scope_rows t kind code
  pub sorted : Formed t → Sorted (body_rows t body)
