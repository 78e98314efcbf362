use Rattle.std.proofs.Common.{◌<◌, length, arith}
use Rattle.text.proofs.Chain.{nothing, ◌⨟◌, wrote_as}
use Rattle.totalling.specs.Counted.{number_bytes}
use Rattle.totalling.proofs.Numbers.{bytes_next}
use Rattle.totalling.proofs.put_numbers.Goals as goal

pub loop-n-init : goal.loop-n-init
unfolding number_bytes
loop-n-init c = nothing

pub loop-n-preserved : goal.loop-n-preserved
loop-n-preserved c =
    let l = c.loop-n in
    let h : l.n-index < length c.args.numbers.now = omega arith in
    wrote_as (l.invariant ⨟ c.put_four-p.ensures) (bytes_next c.args.numbers.now l.n-index h)
