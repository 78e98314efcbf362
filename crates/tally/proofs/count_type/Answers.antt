use Rattle.std.proofs.Common.{arith}
use Rattle.totallaws.proofs.TotalsLaws.{type-placed}
use Rattle.tally.proofs.count_type.Goals as goal

pub overflow_add-type_place : goal.overflow_add-type_place
overflow_add-type_place c = omega (arith, c.type_place.ensures, (type-placed c.args.type_code).0)
