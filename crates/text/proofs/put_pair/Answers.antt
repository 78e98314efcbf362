use Rattle.rules.specs.Digits.{hex}
use Rattle.rules.specs.Texts.{hexes}
use Rattle.text.proofs.put_pair.Goals as goal

pub returns : goal.returns
unfolding hexes hex
returns c =
    rw (c.hex_digits.ensures, c.hex_digits-2.ensures, c.byte_at.ensures, c.byte_at-2.ensures) at c.put_bytes.ensures
