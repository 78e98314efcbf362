-- A row as it is read, in the terms of the definition.
use Rattle.rules.specs.CodeTable.{Tie}
use Rattle.tablebytes.specs.declared.Row.{Row}

abbrev pub tie_of : Row → Tie
tie_of r = record { id = r.id; target = r.target; kind = r.kind }
