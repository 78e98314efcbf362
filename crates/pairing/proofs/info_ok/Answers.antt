-- A row by where its name stands.
use Rattle.std.proofs.Common.{◌∙◌}
use Rattle.pairing.proofs.RowLaws.{info_named}
use Rattle.pairing.proofs.info_ok.Goals as goal

pub returns : goal.returns
returns c = c.is_named.ensures ∙ info_named c.get_info-info.ensures c.args.t.now
