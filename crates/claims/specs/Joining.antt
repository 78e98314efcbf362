-- Document 02, wishes 9 and 12: two code tables joined.
use Rattle.std.specs.Prelude.{ℕ, ◌<◌, ◌≤◌, ◌≡◌, true, false, ◌&&◌, ◌⊎◌, ◌↔◌, length, drop}
use mathlib.Core.List.{List, ◌++◌, map, Memᴰ}
use Rattle.std.proofs.Math.Option.{some}
use Rattle.rules.specs.Lists.{◌>>=◌, all, ascends}
use Rattle.rules.specs.Bytes.{Bytes}
use Rattle.rules.specs.Answer.{answer, refusal}
use Rattle.rules.specs.CodeTable.{Tie, Scope, key, layout, header, scopes, scope_ok, well_formed_lem, Holds, HasScope}
use Rattle.rules.specs.Join.{join_scopes, table_bytes, joined, join_exit, result}
use Rattle.rules.specs.Blob.{is2000}
use Rattle.rules.specs.declared.Answer.{Answer}
use Rattle.claims.specs.Demand1.{Texts}
use Rattle.claims.specs.Demand3.{Successor, Lent, SameRoom, SameBut, Same, exit_of}

-- "each table is well formed"
pub record Table (t : List ℕ) : Type 0 where
  pub bytes : Bytes t
  pub formed : well_formed_lem t ≡ true

-- "room for 65,100 bytes"
abbrev pub Roomy : List ℕ → Type 0
Roomy out = 65100 ≤ length out

-- ---- a code table and its bytes, both ways
-- what a code table can say: its limits, by document 01
pub record Sayable (codes : List ℕ) (ss : List Scope) : Type 0 where
  pub few_codes : length codes ≤ 4
  pub few-scopes : length ss ≤ 64
  pub codes_ascend : ascends 0 codes ≡ true
  pub keys-ascend : ascends 0 (map key ss) ≡ true
  pub scopes-ok : all scope_ok ss ≡ true
  pub codes_fit : (c : ℕ) → Memᴰ c codes → c < 65536
  pub scope_codes_fit : (s : Scope) → Memᴰ s ss → s.code < 65536

-- t is read as this
pub record Says (t : List ℕ) (first : ℕ) (codes : List ℕ) (ss : List Scope) : Type 0 where
  pub formed : well_formed_lem t ≡ true
  pub its-layout : layout t ≡ first
  pub its-header : header t ≡ codes
  pub its-scopes : scopes t ≡ ss

-- ---- wish 9: the answers
-- neither 8 nor 16: "two code tables with the same layout byte and header codes"
pub record Alike (a b : List ℕ) : Type 0 where
  pub formed : (well_formed_lem a && well_formed_lem b) ≡ true
  pub one-layout : layout a ≡ layout b
  pub same-header : header a ≡ header b

-- "one scope and id has two different rows"
pub record Clash (a b : List ℕ) : Type 0 where
  pub kind : ℕ
  pub code : ℕ
  pub row : Tie
  pub row' : Tie
  pub in_a : Holds a kind code row
  pub in_b : Holds b kind code row'
  pub one-id : row.id ≡ row'.id
  pub differ : ¬ (row ≡ row')

pub data JoinAnswer (a b out : List ℕ) : Answer → Type 0 where
  -- either is not well formed
  eight : (well_formed_lem a && well_formed_lem b) ≡ false → JoinAnswer a b out (refusal 8)
  -- layout byte or header codes differ
  sixteen : (well_formed_lem a && well_formed_lem b) ≡ true → ¬ ((layout a ≡ layout b) × (header a ≡ header b)) → JoinAnswer a b out (refusal 16)
  -- one scope and id has two different rows
  seventeen : Alike a b → Clash a b → JoinAnswer a b out (refusal 17)
  -- more than 64 scopes would stand
  eighteen : Alike a b → ¬ Clash a b → 64 < length (join_scopes (scopes a) (scopes b)) → JoinAnswer a b out (refusal 18)
  -- it doesn't fit
  nine : Alike a b → ¬ Clash a b → length (join_scopes (scopes a) (scopes b)) ≤ 64 → length out < length (joined a b) → JoinAnswer a b out (refusal 9)
  -- joined: the length written
  zero : Alike a b → ¬ Clash a b → length (join_scopes (scopes a) (scopes b)) ≤ 64 → length (joined a b) ≤ length out
      → JoinAnswer a b out (answer 0 (length (joined a b)) 0 0)

-- ---- wish 9: the joined table t
pub record Together (a b t : List ℕ) : Type 0 where
  pub bytes : Bytes t
  pub says : Says t (layout a) (header a) (join_scopes (scopes a) (scopes b))
  -- "the result holds every scope and row of either", and no other
  pub scope : (kind code : ℕ) → HasScope t kind code ↔ (HasScope a kind code ⊎ HasScope b kind code)
  pub row : (kind code : ℕ) (r : Tie) → Holds t kind code r ↔ (Holds a kind code r ⊎ Holds b kind code r)
  -- demand 3 speaks of each of the two and the joined table
  pub after_a : Successor a t
  pub after_b : Successor b t
  -- 4 + 2 * 4 + 5 * 64 + 4 * 253 * 64
  pub short : length t ≤ 65100

-- what an office gains: its own table over a stream, and the joined table t over the same stream and room
pub record Gains (own other t s : List ℕ) (lent lent' : Lent) : Type 0 where
  -- over an Access 2000 stream: the same answer number, controls, names and property count, and on answer 0 a property differs exactly where the other office's
  -- table has its code in that scope and its own hasn't; there its own shows the raw code marked unmapped with its stored value, the joined one the other's
  -- row. (What `SameBut` says of an older and a newer table, here of its own and the other's, with what is seen by t)
  pub by_codes : is2000 own s ≡ true → SameBut own other s lent lent' (exit_of own s lent) (exit_of t s lent')
  -- over any other stream the two say the very same
  pub later_same : ¬ (is2000 own s ≡ true) → Same lent lent' (exit_of own s lent) (exit_of t s lent')

pub record Wish9 : Type 0 where
  -- "Refusals: 8 ..; 16 ..; 17 ..; 18 ..; 9 ..; in that order"; a refusal writes nothing
  pub answers : (a b out : List ℕ) → Texts (JoinAnswer a b out) out (join_exit a b out)
  -- "the result holds every scope and row of either"
  pub together : (a b out t : List ℕ) → Bytes a → Bytes b → result (join_exit a b out) ≡ some t → Together a b t
  -- "Two offices learn codes separately": what each gains by joining
  pub first_gains : (a b out t s : List ℕ) (lent lent' : Lent) → Bytes a → Bytes b → result (join_exit a b out) ≡ some t → SameRoom lent lent' → Gains a b t s lent lent'
  pub second_gains : (a b out t s : List ℕ) (lent lent' : Lent) → Bytes a → Bytes b → result (join_exit a b out) ≡ some t → SameRoom lent lent' → Gains b a t s lent lent'
  -- "writes nothing else": the bytes behind stay
  pub behind : (a b out t : List ℕ) → result (join_exit a b out) ≡ some t → (join_exit a b out).out ≡ t ++ drop (length t) out
  -- "in the order of document 01": what a table says is written in one way, and what is written so is read back
  pub written-again : (t : List ℕ) → Table t → table_bytes (layout t) (header t) (scopes t) ≡ t
  pub read_back : (first : ℕ) (codes : List ℕ) (ss : List Scope) → Sayable codes ss → Says (table_bytes first codes ss) first codes ss

-- ---- wish 12
-- a code table that is as long as any can be: no room below 65,100 bytes will do
pub record Longest : Type 0 where
  pub table : List ℕ
  pub is-table : Table table
  pub its-length : length table ≡ 65100
  pub no_less : (out : List ℕ) → length out < 65100 → (join_exit table table out).answer ≡ refusal 9

pub record Wish12 : Type 0 where
  -- "joining a table with itself gives it back"
  pub with_itself : (t out : List ℕ) → Table t → Roomy out → result (join_exit t t out) ≡ some t
  -- "the two orders of a pair give the same bytes or are both refused"
  pub two_orders : (a b out out' : List ℕ) → Table a → Table b → Roomy out → Roomy out' → result (join_exit a b out) ≡ result (join_exit b a out')
  -- more than asked: into one buffer, whatever stands there and however short it is, all that a caller sees is the same, the number too
  pub same-exit : (a b out : List ℕ) → join_exit a b out ≡ join_exit b a out
  -- "the two groupings of three are both joined with the same bytes, or both refused, the number possibly another". (WorkedOrder.antt of `joinlaws` has three tables
  -- that are refused with 17 in one grouping and with 16 in the other, and three with 18 and 17. JoiningMany has more than three)
  -- (each call has a buffer of its own; that of a second call may be another for each table that the first gives)
  pub two_groupings : (a b c out₁ out₃ : List ℕ) (out₂ out₄ : List ℕ → List ℕ) → Table a → Table b → Table c
      → Roomy out₁ → ((t : List ℕ) → Roomy (out₂ t)) → Roomy out₃ → ((t : List ℕ) → Roomy (out₄ t))
      → (result (join_exit a b out₁) >>= λ ab. result (join_exit ab c (out₂ ab))) ≡ (result (join_exit b c out₃) >>= λ bc. result (join_exit a bc (out₄ bc)))
  -- "room for 65,100 bytes": with that nothing is refused for want of room, and it can't be less
  pub room-enough : (a b out : List ℕ) → Bytes a → Bytes b → Roomy out → ¬ ((join_exit a b out).answer.number ≡ 9)
  pub no_less_room : Longest
