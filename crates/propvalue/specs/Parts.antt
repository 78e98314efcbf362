-- What `entry_value_lem` and `value_as_lem` share: each value, or Binary where the bytes don't fit it.
use Rattle.std.specs.Prelude.{ℕ, cond, List, eqb, length}
use Rattle.rules.specs.Bytes.{u32}
use Rattle.rules.specs.Value.{value, double_value, widened, guid_value, binary_value}
use Rattle.rules.specs.declared.Value.{Value}

unfoldable pub single_or_binary : List ℕ → Value
single_or_binary b = cond (eqb (length b) 4) (double_value (widened (u32 b 0))) binary_value

unfoldable pub double_or_binary : List ℕ → Value
double_or_binary b = cond (eqb (length b) 8) (value 4 (u32 b 0) (u32 b 4)) binary_value

unfoldable pub guid_or_binary : List ℕ → Value
guid_or_binary b = cond (eqb (length b) 16) guid_value binary_value
