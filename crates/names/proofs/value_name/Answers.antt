use Rattle.rules.specs.Names.{name_exit}
use Rattle.names.proofs.Short.{value-short}
use Rattle.names.proofs.value_name.Goals as goal

pub write_name-requires : goal.write_name-requires
write_name-requires c =
    rw c.value_name_in.ensures (value-short c.args.mark c.args.id)

pub returns : goal.returns
unfolding name_exit
returns c =
    rw c.value_name_in.ensures at c.write_name.ensures
