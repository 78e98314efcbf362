use Rattle.std.proofs.Common.{ℕ, arith}
use Rattle.std.proofs.Math.ListN.{length-replicate}
use Rattle.formlist.proofs.Printing.{bound}
use Rattle.formlist.proofs.main.Goals as goal

pub list-requires : goal.list-requires
list-requires c = record {
  lent = record { index_is = c.index-index.ensures; letters-are = c.letters-letters.ensures };
  roomy = record { for_input = length-replicate {A = ℕ} 32768 0; for_lines = simp length-replicate (omega (arith, bound)) };
}
