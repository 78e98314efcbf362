use native.Mathlib.Omega.{arith}
use mathlib.Core.Path.{sym, ap, ◌∙◌}
use mathlib.Core.List.{[], ◌∷◌}
use lib.ListN.{length, length-append}
use Rattle.rules.specs.Utf8.{utf8}
use Rattle.rules.specs.Csv.{quote, doubled}
use Rattle.csvtext.proofs.UnitLaws.{field_plain, field-quoted}
use Rattle.csvtext.proofs.field_left.Goals as goal

pub returns-then-is_plain : goal.returns-then-is_plain
returns-then-is_plain c =
    let f = utf8 c.args.bytes.now in
    omega (arith, c.doubled_left.ensures, ap length (field_plain f (sym c.is_plain.ensures ∙ c.if-is_plain.true)))

pub returns : goal.returns
returns c =
    let f = utf8 c.args.bytes.now in
    omega (arith, c.doubled_left-2.ensures, c.saturating_sub.ensures, ap length (field-quoted f (sym c.is_plain.ensures ∙ c.if-is_plain.false)), length-append (doubled f) (quote ∷ []))
