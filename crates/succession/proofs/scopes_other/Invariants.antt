use Rattle.std.proofs.Common.{◌+◌, ◌-◌, ◌*◌}
use Rattle.succession.proofs.Scopes.{ScopesTo}
use Rattle.succession.proofs.scopes_other.Given as goal

abbrev pub invariant-loop-i : goal.invariant-loop-i
invariant-loop-i l = ScopesTo l.missing l.other l.one (l.contents + 5 * l.i) l.body (l.scopes - l.i)
