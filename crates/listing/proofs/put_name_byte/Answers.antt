use mathlib.Core.Path.{sym, ◌∙◌}
use Rattle.text.proofs.Chain.{◌⨟◌}
use Rattle.listing.proofs.InfoName.{shown, escaped}
use Rattle.listing.proofs.put_name_byte.Goals as goal

pub returns-then-is_shown : goal.returns-then-is_shown
returns-then-is_shown c =
    rw (shown _ (sym c.is_shown.ensures ∙ c.if-is_shown.true)) c.put_byte.ensures

pub returns : goal.returns
returns c =
    rw (escaped _ (sym c.is_shown.ensures ∙ c.if-is_shown.false)) (c.put_byte-p.ensures ⨟ c.put_hex.ensures)
