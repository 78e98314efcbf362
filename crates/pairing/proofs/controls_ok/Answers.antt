-- Each control row counted, by its words.
use Rattle.std.proofs.Common.{◌∙◌, rules, tests, arith}
use Rattle.std.proofs.lemmas.Iterator.{YieldsList-from_range}
use Rattle.std.proofs.lemmas.Iterator.Search.{all_from_yields_List}
use Rattle.rules.specs.Rows.{control_width, row_at}
use Rattle.rules.specs.Pairing.{control_ok}
use Rattle.pairing.proofs.RowLaws.{rows_all}
use Rattle.pairing.proofs.controls_ok.Goals as goal

pub returns : goal.returns
returns c =
    all_from_yields_List (λ k. control_ok c.args.s.now (row_at control_width k c.args.controls.now)) _ _ _ c.all.ensures.ran (YieldsList-from_range 0 c.args.control_count c.args.control_count (cc) (omega arith)) (λ x b q k. search (rules, tests))
    ∙ rows_all (control_ok c.args.s.now) control_width c.args.controls.now 0 c.args.control_count
