use native.Mathlib.Omega.{arith}
use mathlib.Core.Path.{sym, ap, ◌∙◌}
use lib.ListN.{length}
use Rattle.rules.specs.Utf8.{utf8_of}
use Rattle.csvtext.proofs.Spelling.{first-half}
use Rattle.csvtext.specs.Units.{doubled_of}
use Rattle.csvtext.proofs.UnitLaws.{ends-quote, ends-other}
use Rattle.csvtext.proofs.unit_size.Goals as goal

pub returns-then-is_high : goal.returns-then-is_high
returns-then-is_high c =
    sym (ap length (first-half doubled_of c.args.high c.args.u (sym c.is_high.ensures ∙ c.if-is_high.true)))

pub returns-then-c-eq-QUOTE_SIGN : goal.returns-then-c-eq-QUOTE_SIGN
returns-then-c-eq-QUOTE_SIGN c =
    sym (ap length (ends-quote c.args.high c.args.u (sym c.is_high.ensures ∙ c.if-is_high.false) (omega (arith, c.scalar-c.ensures))))

pub returns : goal.returns
returns c =
    c.character_size.ensures ∙ ap (λ n. length (utf8_of n)) c.scalar-c.ensures
    ∙ sym (ap length (ends-other c.args.high c.args.u (sym c.is_high.ensures ∙ c.if-is_high.false) (λ e. omega (arith, c.scalar-c.ensures))))
