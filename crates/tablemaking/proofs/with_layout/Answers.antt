use Rattle.std.proofs.Common.{sym, refl}
use Rattle.tablemaking.specs.Judged.{fault_of, after}
use Rattle.tablemaking.proofs.Judging.{first-layout, second-layout}
use Rattle.tablemaking.proofs.with_layout.Goals as goal

pub returns-then-is_some : goal.returns-then-is_some
unfolding fault_of
returns-then-is_some c = sym (second-layout _ (sym c.if-is_some.ensures))

pub returns : goal.returns
unfolding fault_of after
returns c = record { kept = first-layout _ (sym c.if-is_some.ensures); is = refl }
