-- What is found from row `j` on is found.
use Rattle.std.proofs.Math.Option.{some}
use Rattle.rules.specs.Lists.{find}
use Rattle.rules.specs.Rows.{type_info_width}
use Rattle.rules.specs.Pairing.{has_name}
use Rattle.pairing.specs.Wanted.{name_of}
use Rattle.pairing.proofs.RowLaws.{Deciding}
use Rattle.pairing.proofs.Infos.type_of_name.Given as goal

abbrev pub invariant-loop-j : goal.invariant-loop-j
invariant-loop-j l = Deciding type_info_width l.self.count l.self.rows.now find (has_name l.self.stream.now (some (name_of l.name.stream.now l.name.name))) l.j
