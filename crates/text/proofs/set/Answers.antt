use native.Mathlib.Omega.{arith}
use Rattle.text.proofs.Copies.{set_wrote}
use Rattle.text.proofs.set.Goals as goal

pub returns : goal.returns
returns g c = set_wrote c.requires (omega arith) c.copy_from_slice.ensures.len c.copy_from_slice.ensures.after
