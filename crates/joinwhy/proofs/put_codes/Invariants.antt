use Rattle.std.proofs.Common.{◌+◌, ◌-◌, ◌*◌, ◌^◌}
use Rattle.text.proofs.Remains.{Left}
use Rattle.rules.specs.CodeTable.{codes_at}
use Rattle.joinwhy.specs.Why.{code_words}
use Rattle.joinwhy.proofs.put_codes.Given as goal

abbrev pub invariant-loop-i : goal.invariant-loop-i
invariant-loop-i l = Left (λ q k. code_words (codes_at l.table q k)) 2 (2 ^ 32) l.start l.n l.initial.out l.at l.out l.p (l.start + 2 * l.i) (l.n - l.i)
