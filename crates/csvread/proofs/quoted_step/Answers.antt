use mathlib.Core.Path.{sym}
use Rattle.csvread.proofs.ByteLaws.{quoted-quote, quoted-byte}
use Rattle.csvread.proofs.quoted_step.Goals as goal

pub returns-then-b-eq-QUOTE : goal.returns-then-b-eq-QUOTE
returns-then-b-eq-QUOTE c = sym (quoted-quote _ _ c.if-b-eq-QUOTE.true)

pub returns : goal.returns
returns c = sym (quoted-byte _ _ c.if-b-eq-QUOTE.false)
