use Rattle.std.proofs.Common.{rules, ◌∙◌}
use Rattle.std.proofs.lemmas.List.{take_all}
use Rattle.names.proofs.Bracket.{sought}
use Rattle.names.proofs.place_in.Goals as goal

pub returns : goal.returns
returns c =
    c.unwrap_or.ensures ∙ sought c.args.ids.now c.args.id c.requires c.binary_search.result c.binary_search.ensures.position (search (rules, take_all))
