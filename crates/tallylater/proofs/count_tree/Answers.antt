use Rattle.std.proofs.Common.{arith}
use Rattle.cursorlater.proofs.StepLaws.{count_small}
use Rattle.later.proofs.ReadLaws.{tree-never}
use Rattle.tallylater.proofs.ReadLaws.{tree-ready, tree-done}
use Rattle.tallylater.proofs.count_tree.Goals as goal

-- a count of two bytes fits
pub overflow_cast-top : goal.overflow_cast-top
overflow_cast-top c = omega (arith, count_small _ _ _ c.in-Some.ensures (λ i. (c.type_inv.s i).fits))

pub count_sections-requires : goal.count_sections-requires
count_sections-requires c = tree-ready c.requires c.in-Some.ensures

pub returns-in-Some : goal.returns-in-Some
returns-in-Some c = tree-done c.requires c.in-Some.ensures c.count_sections.ensures

pub returns-in_default : goal.returns-in_default
returns-in_default c = absurd (tree-never _ _ _ c.requires.few c.in_default.ensures)
