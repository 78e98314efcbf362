use Rattle.std.proofs.Common.{ℕ, ap, ◌∙◌}
use Rattle.rules.specs.Read2000.{property}
use Rattle.rules.specs.declared.Value.{Value}
use Rattle.run2000.specs.Runs.{prop_of}
use Rattle.run2000.proofs.Shows.{shown-tied, shown-untied}
use Rattle.shown2000.proofs.property.Goals as goal
use Rattle.shown2000.proofs.property.Goals.{in-Some, in-None}

pub returns : goal.returns
returns c = elim c.match-find_row.branch [
  | in-Some w ↦
      ap (λ (x : ℕ × Value). property x.0 x.1 (prop_of c.args.p)) w.id-is
      ∙ shown-tied _ _ _ _ _ (c.find_row.ensures c.requires.sorted) c.part-bytes.ensures w.in-Some.is w.value_as.ensures
  | in-None w ↦
      ap (λ (x : ℕ × Value). property x.0 x.1 (prop_of c.args.p)) w.id-is
      ∙ shown-untied _ _ _ _ _ (c.find_row.ensures c.requires.sorted) c.part-bytes.ensures w.in-None.is w.bit_or.ensures w.stored_value.ensures
]
