use lib.Seq.{take-suc}
use lib.ListN.{length}
use Prim.Native.Nat.{◌<◌}
use native.Mathlib.Omega.{arith}
use native.Mathlib.Numerals.{add-one}
use Rattle.text.proofs.Chain.{nothing, ◌⨟◌}
use Rattle.text.proofs.put_each.Goals as goal

pub loop-b-init : goal.loop-b-init
loop-b-init c = nothing

pub loop-b-preserved : goal.loop-b-preserved
loop-b-preserved c =
    let s = c.args.s.now in
    let h : c.loop-b.b-index < length s = omega arith in
    rw (add-one, take-suc s c.loop-b.b-index 0 h) (c.loop-b.invariant ⨟ c.put_byte-o.ensures)
