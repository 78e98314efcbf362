-- The name at `start`, ended by a NUL or by the end.
use native.Mathlib.Omega.{arith}
use Rattle.typeinfo.proofs.NulLaws.{ended-by_nul, ended-by-end}
use Rattle.typeinfo.proofs.nul_terminated.Goals as goal

pub returns-then-end-s : goal.returns-then-end-s
returns-then-end-s c = ended-by_nul _ _ _ c.nul_from-end.ensures (omega arith)

pub returns : goal.returns
returns c = ended-by-end _ _ _ c.nul_from-end.ensures c.requires (omega arith)
