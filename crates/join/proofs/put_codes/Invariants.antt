use Rattle.std.proofs.Common.{◌+◌, ◌-◌, ◌*◌, ◌^◌}
use Rattle.text.proofs.Remains.{Left}
use Rattle.rules.specs.CodeTable.{codes_at}
use Rattle.joinlaws.proofs.TableBytesLaws.{codes_bytes}
use Rattle.join.proofs.put_codes.Given as goal

abbrev pub invariant-loop-i : goal.invariant-loop-i
invariant-loop-i l = Left (λ q k. codes_bytes (codes_at l.table q k)) 2 (2 ^ 32) 4 l.codes l.initial.out l.at l.out l.o (4 + 2 * l.i) (l.codes - l.i)
