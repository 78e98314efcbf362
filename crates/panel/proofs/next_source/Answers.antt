-- The first row found, and those before it.
use Rattle.std.proofs.Common.{◌≡◌, true, false, rules, tests}
use Rattle.std.proofs.lemmas.Iterator.{first_from_Range}
use Rattle.rules.specs.Rows.{property_width, row_at}
use Rattle.rules.specs.Panel.{is_source}
use Rattle.rows.specs.Get.{shown_by_lem}
use Rattle.panel.proofs.PropertyLaws.{found}
use Rattle.panel.proofs.next_source.Goals as goal

pub returns : goal.returns
returns c =
    found c.args.properties.now c.args.from c.args.to c.find.result
    (first_from_Range _ _ _ c.find.result (λ k. is_source (shown_by_lem (row_at property_width k c.args.properties.now)) ≡ true) (λ k. is_source (shown_by_lem (row_at property_width k c.args.properties.now)) ≡ false)
    c.find.ensures.ran (λ x q k. search (rules, tests)) (λ x q k. search (rules, tests)))
