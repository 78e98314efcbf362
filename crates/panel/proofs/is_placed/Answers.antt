-- Each row from one to the other.
use Rattle.std.proofs.Common.{◌-◌, ◌∙◌, refl, rules, tests}
use Rattle.std.proofs.lemmas.Iterator.{YieldsList-from_range}
use Rattle.std.proofs.lemmas.Iterator.Search.{all_from_yields_List}
use Rattle.rules.specs.Rows.{property_width, row_at}
use Rattle.rules.specs.Panel.{is_placing}
use Rattle.rows.specs.Get.{shown_by_lem}
use Rattle.panel.proofs.PropertyLaws.{all_placed}
use Rattle.panel.proofs.is_placed.Goals as goal

pub returns : goal.returns
returns c =
    all_from_yields_List (λ k. is_placing (shown_by_lem (row_at property_width k c.args.properties.now))) _ _ _ c.all.ensures.ran (YieldsList-from_range c.args.from c.args.to (c.args.to - c.args.from) (cc) refl) (λ x b q k. search (rules, tests))
    ∙ all_placed c.args.properties.now c.args.from (c.args.to - c.args.from)
