-- The type that is left or found differs exactly where it is left.
use Rattle.rules.specs.Pairing.{infos_in}
use Rattle.pairlines.proofs.UnpairedLaws.{told_apart}
use Rattle.pairlines.proofs.is_unpaired.Goals as goal

pub returns : goal.returns
returns c =
    let a = c.args in
    told_apart a.stream.now a.info.stream.now (infos_in a.info.count a.info.rows.now) a.row _ _ _ _ c.typed.ensures c.typed-2.ensures c.paired_type-one.ensures c.paired_type-other.ensures
