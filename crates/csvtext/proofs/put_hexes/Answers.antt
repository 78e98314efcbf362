use lib.Seq.{take-suc}
use lib.ListN.{length}
use Prim.Native.Nat.{◌<◌}
use native.Mathlib.Omega.{arith}
use native.Mathlib.Numerals.{add-one}
use Rattle.rules.specs.Csv.{hex_text}
use Rattle.text.proofs.Chain.{nothing, ◌⨟◌}
use Rattle.csvtext.proofs.UnitLaws.{hexes_append}
use Rattle.csvtext.proofs.put_hexes.Goals as goal

pub loop-b-init : goal.loop-b-init
unfolding hex_text
loop-b-init c = nothing

pub loop-b-preserved : goal.loop-b-preserved
loop-b-preserved c =
    let s = c.args.bytes.now in
    let h : c.loop-b.b-index < length s = omega arith in
    rw (add-one, take-suc s c.loop-b.b-index 0 h, hexes_append) (c.loop-b.invariant ⨟ c.put_hex_byte-p.ensures)
