use Rattle.std.proofs.Common.{◌≡◌, ◌/◌, ◌%◌, refl, arith}
use Rattle.text.proofs.Chain.{◌⨟◌, wrote_as}
use Rattle.tablebytes.proofs.put_two.Goals as goal

pub returns : goal.returns
returns c =
    let e : c.args.n / 256 % 256 ≡ c.args.n / 256 = omega (arith, c.ranges.n) in
    wrote_as (c.put_byte-p.ensures ⨟ c.put_byte.ensures) (rw (c.to_le_bytes.ensures, e) refl)
