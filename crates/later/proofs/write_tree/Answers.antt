use Rattle.std.proofs.Common.{arith}
use Rattle.cursorlater.proofs.StepLaws.{count_small}
use Rattle.later.proofs.ReadLaws.{tree-never, tree-ready, tree-done}
use Rattle.later.proofs.write_tree.Goals as goal

-- a count of two bytes fits
pub overflow_cast-top : goal.overflow_cast-top
overflow_cast-top c = omega (arith, count_small _ _ _ c.in-Some.ensures (λ i. (c.type_inv.s i).fits))

pub write_sections-requires : goal.write_sections-requires
write_sections-requires c = tree-ready _ _ _ c.requires c.in-Some.ensures

pub returns-in-Some : goal.returns-in-Some
returns-in-Some c = tree-done _ _ _ c.requires c.in-Some.ensures c.write_sections.ensures

pub returns-in-None : goal.returns-in-None
returns-in-None c = absurd (tree-never _ _ _ c.requires.fits c.in-None.ensures)
