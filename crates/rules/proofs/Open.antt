-- A name for all the definitions: to unfold it is to unfold them all, so a worked example is `refl`.
use Prim.Native.Nat.{ℕ}
use Rattle.rules.specs.NamePart.{name_part}
use Rattle.rules.proofs.OpenNames.{names_open}
use Rattle.rules.proofs.OpenTypeInfo.{type_info_open}
use Rattle.rules.proofs.OpenTables.{join_open}
use Rattle.rules.proofs.OpenStreams.{blob_open}
use Rattle.rules.proofs.OpenListing.{listing_open}

unfoldable pub rules_open : ℕ
unfolding blob_open join_open names_open name_part type_info_open listing_open
rules_open = 0
