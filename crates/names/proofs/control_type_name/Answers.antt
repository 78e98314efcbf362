use Rattle.rules.specs.Names.{name_exit}
use Rattle.names.proofs.Short.{type-short}
use Rattle.names.proofs.control_type_name.Goals as goal

pub write_name-requires : goal.write_name-requires
write_name-requires c =
    rw c.type_name_in.ensures (type-short c.args.id)

pub returns : goal.returns
unfolding name_exit
returns c =
    rw c.type_name_in.ensures at c.write_name.ensures
