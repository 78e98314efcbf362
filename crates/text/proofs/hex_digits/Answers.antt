use mathlib.Core.List.{[], ◌∷◌}
use mathlib.Core.Path.{ap, ◌∙◌}
use Prim.Native.Nat.{◌/◌, ◌%◌}
use native.Mathlib.Omega.{arith}
use Rattle.rules.specs.Digits.{digit, hex}
use Rattle.text.proofs.hex_digits.Goals as goal

pub returns : goal.returns
unfolding hex
returns c =
    let b = c.args.b in
    let a = c.digit_of.ensures ∙ ap digit {x = b / 16} {y = b / 16 % 16} (omega arith) in
    λ i. a i ∷ c.digit_of-2.ensures i ∷ []
