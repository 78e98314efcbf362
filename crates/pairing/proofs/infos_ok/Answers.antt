-- Each TypeInfo row counted, by its words.
use Rattle.std.proofs.Common.{◌∙◌, rules, tests, arith}
use Rattle.std.proofs.lemmas.Iterator.{YieldsList-from_range}
use Rattle.std.proofs.lemmas.Iterator.Search.{all_from_yields_List}
use Rattle.rules.specs.Rows.{type_info_width, row_at}
use Rattle.rules.specs.Pairing.{is_named}
use Rattle.pairing.proofs.RowLaws.{rows_all}
use Rattle.pairing.proofs.infos_ok.Goals as goal

pub returns : goal.returns
returns c =
    all_from_yields_List (λ k. is_named c.args.t.now (row_at type_info_width k c.args.infos.now)) _ _ _ c.all.ensures.ran (YieldsList-from_range 0 c.args.info_count c.args.info_count (cc) (omega arith)) (λ x b q k. search (rules, tests))
    ∙ rows_all (is_named c.args.t.now) type_info_width c.args.infos.now 0 c.args.info_count
