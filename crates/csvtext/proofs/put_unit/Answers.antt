use native.Mathlib.Omega.{arith}
use mathlib.Core.Path.{sym, ap, ◌∙◌}
use Rattle.rules.specs.Utf8.{utf8_of}
use Rattle.text.proofs.Chain.{nothing, wrote_as}
use Rattle.csvtext.proofs.Spelling.{first-half}
use Rattle.csvtext.specs.Units.{doubled_of}
use Rattle.csvtext.proofs.UnitLaws.{ends-quote, ends-other, scalar-small}
use Rattle.csvtext.proofs.put_unit.Goals as goal

pub returns-then-is_high : goal.returns-then-is_high
returns-then-is_high c =
    wrote_as nothing (sym (first-half doubled_of c.args.high c.args.u (sym c.is_high.ensures ∙ c.if-is_high.true)))

pub returns-then-c-eq-QUOTE_SIGN : goal.returns-then-c-eq-QUOTE_SIGN
returns-then-c-eq-QUOTE_SIGN c =
    wrote_as c.put_bytes.ensures
    (sym (ends-quote c.args.high c.args.u (sym c.is_high.ensures ∙ c.if-is_high.false) (omega (arith, c.scalar-c.ensures, c.if-c-eq-QUOTE_SIGN.true))))

pub put_character-requires : goal.put_character-requires
put_character-requires c =
    omega (arith, c.scalar-c.ensures, scalar-small c.args.high c.args.u c.requires (omega (arith, c.well_formed)))

pub returns : goal.returns
returns c =
    wrote_as c.put_character.ensures
    (ap utf8_of c.scalar-c.ensures
    ∙ sym (ends-other c.args.high c.args.u (sym c.is_high.ensures ∙ c.if-is_high.false) (λ e. omega (arith, c.scalar-c.ensures, c.if-c-eq-QUOTE_SIGN.false))))
