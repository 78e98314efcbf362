use Rattle.std.proofs.Common.{arith}
use Rattle.cursorlater.proofs.StepLaws.{count_small}
use Rattle.later.proofs.ReadLaws.{tree-never}
use Rattle.csvlater.proofs.Whole.{tree-ready, tree-done}
use Rattle.csvlater.proofs.tree_left.Goals as goal

-- a count of two bytes fits
pub overflow_cast-top : goal.overflow_cast-top
overflow_cast-top c = omega (arith, count_small _ _ _ c.in-Some.ensures (λ i. (c.type_inv.s i).fits))

pub sections_left-requires : goal.sections_left-requires
sections_left-requires c = tree-ready c.requires c.in-Some.ensures

pub returns-in-Some : goal.returns-in-Some
returns-in-Some c = tree-done c.requires c.in-Some.ensures c.sections_left.ensures

pub returns-in-None : goal.returns-in-None
returns-in-None c = absurd (tree-never _ _ _ c.requires.few c.in-None.ensures)
