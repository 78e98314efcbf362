-- The bytes from the last one on, each spread over what came before.
use Rattle.std.proofs.Common.{◌∙◌, rules, tests}
use Rattle.std.proofs.lemmas.Iterator.Consumers.{fold_from_yields_List}
use Rattle.std.proofs.lemmas.Iterator.Adapters.{YieldsList-from_rev_slice}
use Rattle.panel.proofs.MarkLaws.{spread_on, spread_fold}
use Rattle.panel.proofs.spread_of.Goals as goal

pub returns : goal.returns
returns c =
    fold_from_yields_List _ spread_on 0 c.fold.result c.fold.ensures.ran (YieldsList-from_rev_slice c.args.name.now (cc)) (λ a x b q k. search (rules, tests))
    ∙ spread_fold c.args.name.now
