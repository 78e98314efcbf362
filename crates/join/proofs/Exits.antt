-- What joining comes to, test by test: the answer where a test fails, and what is known where all are passed.
use Prim.Native.Nat.{ℕ, ◌+◌, ◌*◌, ◌≤◌, ◌<◌}
use native.Mathlib.Omega.{arith}
use mathlib.Core.Path.{◌≡◌, sym, ap, ◌∙◌}
use mathlib.Core.Bool.{Bool, true, false}
use mathlib.Core.List.{List, ◌++◌}
use lib.ListN.{length}
use borrow.Author.Tests.{lt-ltb}
use Rattle.rules.specs.CodeTable.{header_count, scopes, row_count_lem, well_formed_lem}
use Rattle.rules.specs.Texts.{text_exit, refuse}
use Rattle.rules.specs.Join.{join_scopes, scopes_agree, same_head_lem, table_bytes, joined, join_exit}
use Rattle.joinlaws.proofs.TableBytesLaws.{contents_bytes, bodies_bytes, length-codes_at}
use Rattle.joinlaws.proofs.JoinedLaws.{same_head, exit_joins, joined_length, rows-most}
use Rattle.std.proofs.Common.{Option, Some, None}
use Rattle.join.specs.declared.Size.{Size}
use Rattle.join.proofs.RowLaws.{some_agreed, none_agreed}
use Rattle.join.specs.Walk.{sized, Formed, Agreed, head_bytes}

module _ (a b : List ℕ) {out : List ℕ} where
  pub exit-first : well_formed_lem a ≡ false → join_exit a b out ≡ refuse 8 out
  unfolding join_exit
  exit-first e = rw e

  pub exit-second : well_formed_lem a ≡ true → well_formed_lem b ≡ false → join_exit a b out ≡ refuse 8 out
  unfolding join_exit
  exit-second e g = rw (e, g)

pub exit_heads : {a b out : List ℕ} → Formed a b → same_head_lem a b ≡ false → join_exit a b out ≡ refuse 16 out
unfolding join_exit
exit_heads F h = rw (F.one-formed, F.other-formed, h)

-- past the tests of the tables and their heads, s is what was counted
pub record Counted (a b : List ℕ) (s : Option Size) : Type 0 where
  pub formed : Formed a b
  pub heads : same_head_lem a b ≡ true
  pub sizes : s ≡ sized (scopes a) (scopes b)

-- what a test was told, where it doesn't stop the joining
passed : {b known : Bool} → b ≡ known → b ≡ true → known ≡ true
passed e q = sym e ∙ q

pub both_formed : {a b : List ℕ} {w w' : Bool} → w ≡ well_formed_lem a → w ≡ true → w' ≡ well_formed_lem b → w' ≡ true → Formed a b
both_formed e q e' q' = record { one-formed = passed e q; other-formed = passed e' q' }

pub was_counted : {a b : List ℕ} {h : Bool} {s : Option Size} → Formed a b → h ≡ same_head_lem a b → h ≡ true → s ≡ sized (scopes a) (scopes b) → Counted a b s
was_counted F e q c = record { formed = F; heads = passed e q; sizes = c }

pub exit_clash : {a b out : List ℕ} → Counted a b None → join_exit a b out ≡ refuse 17 out
unfolding join_exit
exit_clash {a} {b} C = let g : scopes_agree (scopes a) (scopes b) ≡ false = none_agreed _ _ C.sizes in rw (C.formed.one-formed, C.formed.other-formed, C.heads, g)

-- and no scope and id has two different rows
module _ {a b : List ℕ} {s : Size} (P : Counted a b (Some s)) where
  abbrev F : Formed a b
  F = P.formed

  agrees : scopes_agree (scopes a) (scopes b) ≡ true
  agrees = (some_agreed _ _ P.sizes).0

  pub tables_agree : Agreed a b
  tables_agree = record { formed = F; agree-all = agrees }

  scopes-is : s.scopes ≡ length (join_scopes (scopes a) (scopes b))
  scopes-is = ap (λ (x : Size). x.scopes) (some_agreed _ _ P.sizes).1

  rows_is : s.rows ≡ row_count_lem (join_scopes (scopes a) (scopes b))
  rows_is = ap (λ (x : Size). x.rows) (some_agreed _ _ P.sizes).1

  pub rows_few : s.rows ≤ 32384
  rows_few = let e = rows_is in let l = rows-most a b F.one-formed F.other-formed in omega arith

  pub exit-many : {out : List ℕ} → 64 < s.scopes → join_exit a b out ≡ refuse 18 out
  unfolding join_exit
  exit-many l =
      let n = scopes-is in
      let m : 64 < length (join_scopes (scopes a) (scopes b)) = omega arith in
      rw (F.one-formed, F.other-formed, P.heads, agrees, lt-ltb 64 (length (join_scopes (scopes a) (scopes b))) m)

  pub exit-text : (out : List ℕ) → s.scopes ≤ 64 → join_exit a b out ≡ text_exit (joined a b) out
  exit-text out l =
      let n = scopes-is in
      let q = same_head a b P.heads in
      exit_joins a b out (record { formed_a = F.one-formed; formed_b = F.other-formed; one-layout = q.0; same-header = q.1; agreed = agrees; few = omega arith })

  pub size_is : {k : ℕ} → k ≡ header_count a → 4 + 2 * k + 5 * s.scopes + 4 * s.rows ≡ length (joined a b)
  size_is q =
      let n = scopes-is in
      let m = rows_is in
      let l = joined_length a b in
      let c = length-codes_at a 4 (header_count a) in
      omega arith

  -- the parts that are written, one after the other
  pub parts_are : head_bytes a s.scopes ++ (contents_bytes (join_scopes (scopes a) (scopes b)) ++ bodies_bytes (join_scopes (scopes a) (scopes b))) ≡ joined a b
  unfolding joined table_bytes
  parts_are = rw scopes-is
