-- The first `n` rows are told where they found none.
use Rattle.rules.specs.Pairing.{infos_in}
use Rattle.pairlines.proofs.UnpairedLaws.{Telling}
use Rattle.pairlines.proofs.unpaired_lines.Given as goal

abbrev pub invariant-loop-n : goal.invariant-loop-n
invariant-loop-n l = Telling l.stream l.info.stream.now l.controls (infos_in l.info.count l.info.rows.now) l.control_count l.fn.out l.at l.out l.told l.n
