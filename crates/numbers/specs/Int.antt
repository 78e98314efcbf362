-- A whole number in 16 bits, where they hold it.
use Rattle.std.specs.Prelude.{cond, ℤ, Option, Some, None}
use Rattle.rules.specs.Value.{fits16}

unfoldable pub short_of : ℤ → Option ℤ
short_of z = cond (fits16 z) (Some z) None
