-- Pairing.
use Prim.Native.Nat.{ℕ}
use Rattle.rules.specs.Lists.{same}
use Rattle.rules.specs.Rows.{rows_from}
use Rattle.rules.specs.Pairing.{units_in, control_name_lem, names_match, has_name, paired_type, types_set, may_pair, pair_exit}
use Rattle.rules.proofs.OpenBytes.{bytes_open}
use Rattle.rules.proofs.OpenTexts.{texts_open}

unfoldable pub pairing_open : ℕ
unfolding bytes_open texts_open same rows_from units_in control_name_lem names_match has_name paired_type types_set may_pair pair_exit
pairing_open = 0
