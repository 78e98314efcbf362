-- A letter stands for itself; another unit is shown by its digits.
use Rattle.std.proofs.Common.{sym}
use Rattle.text.proofs.Chain.{◌⨟◌}
use Rattle.pairlines.proofs.NameLaws.{a_letter, no-letter}
use Rattle.pairlines.proofs.put_unit.Goals as goal

pub returns-then-is_letter : goal.returns-then-is_letter
returns-then-is_letter c = rw (a_letter _ _ (sym c.if-is_letter.ensures)) c.put_byte.ensures

pub returns : goal.returns
returns c = rw (no-letter _ _ (sym c.if-is_letter.ensures)) (c.put_text-p.ensures ⨟ c.put_hex-p.ensures ⨟ c.put_hex.ensures)
