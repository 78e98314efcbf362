-- The names before row `j` decide.
use Rattle.std.proofs.Common.{◌≡◌}
use Rattle.rules.specs.Panel.{is_new_name}
use Rattle.panel.specs.ByRows.{names_before}
use Rattle.panel.proofs.Reading.is_new.Given as goal

abbrev pub invariant-loop-j : goal.invariant-loop-j
invariant-loop-j l = is_new_name (names_before l.self.stream.now l.self.controls.now l.n) l.name ≡ is_new_name (names_before l.self.stream.now l.self.controls.now l.j) l.name
