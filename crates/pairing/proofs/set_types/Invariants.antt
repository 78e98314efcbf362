-- The types of the first `k` rows are set.
use Rattle.std.proofs.Common.{◌≡◌}
use Rattle.rules.specs.Pairing.{infos_in, types_set}
use Rattle.pairing.proofs.set_types.Given as goal

abbrev pub invariant-loop-k : goal.invariant-loop-k
invariant-loop-k l = l.controls ≡ types_set l.s l.t (infos_in l.info_count l.infos) l.k l.fn.controls
