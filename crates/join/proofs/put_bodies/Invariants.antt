use Rattle.std.proofs.Common.{◌+◌, ℕ, List}
use Rattle.rules.specs.CodeTable.{Scope, scopes}
use Rattle.rules.specs.Join.{join_scopes, ties_bytes}
use Rattle.joinlaws.proofs.TableBytesLaws.{bodies_bytes}
use Rattle.join.specs.Walk.{scopes_in, ScopesWalk}
use Rattle.join.proofs.Writing.{Writing}
use Rattle.join.proofs.put_bodies.Given as goal

-- the body of a scope
abbrev body : Scope → List ℕ
body s = ties_bytes s.rows

abbrev pub invariant-loop-a : goal.invariant-loop-a
invariant-loop-a l =
    Writing ScopesWalk body l.one l.a l.other l.b l.initial.out l.at (bodies_bytes (join_scopes (scopes l.one) (scopes l.other))) l.out l.o
    (join_scopes (scopes_in l.one l.a) (scopes_in l.other l.b))

abbrev pub decreases-loop-a : goal.decreases-loop-a
decreases-loop-a l = l.a.left + l.b.left
