-- What "open" means: to unfold one of these names is to unfold the definitions that it lists, so a worked example is `refl`.
-- Each file of worked examples opens what it needs; `Open.antt` has one name for all.
use Prim.Native.Nat.{ℕ}
use lib.Ieee.{nan_bits, to_bits, of_bits}
use Rattle.rules.specs.Lists.{concat, all, keep, find, has, ascends}
use Rattle.rules.specs.Bytes.{u16, u32, byte_at, half_at_lem}
use Rattle.rules.specs.Utf16.{paired, is_utf16_lem}
use Rattle.rules.specs.Scalars.{scalar, scalars_from, scalars}
use Rattle.rules.specs.Value as value
use Rattle.rules.specs.Dump.{digit_of, dump}

unfoldable pub bytes_open : ℕ
unfolding digit_of dump concat all keep find has ascends u16 u32 byte_at half_at_lem paired is_utf16_lem scalar scalars_from scalars value.signed value.word32 value.fits16 value.integer_value_lem value.widened_nan value.widened value.yes_no_value value.entry_value_lem value.stored_value_lem value.value_as_lem nan_bits to_bits of_bits
bytes_open = 0
