use native.Mathlib.Omega.{arith}
use mathlib.Core.Path.{sym}
use Rattle.text.proofs.Chain.{◌⨟◌, wrote_as, same}
use Rattle.text.proofs.Written.{next}
use Rattle.text.proofs.Copies.{eight_are}
use Rattle.text.proofs.set_eight.Goals as goal

pub set-requires : goal.set-requires
set-requires c = let w = c.set-middle.ensures in omega (arith, same w, next w (omega arith))

pub returns : goal.returns
returns c = wrote_as (c.set-middle.ensures ⨟ c.set.ensures) (sym (eight_are c.args.bytes.now c.told-bytes))
