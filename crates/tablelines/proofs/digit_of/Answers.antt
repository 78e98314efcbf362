use native.Mathlib.Omega.{arith}
use Rattle.tablelines.proofs.WordLaws.{digit_read}
use Rattle.tablelines.proofs.digit_of.Goals as goal

pub returns : goal.returns
returns c = digit_read {x = c.from.result} (omega (arith, c.from.ensures)) c.to_digit.ensures.value
