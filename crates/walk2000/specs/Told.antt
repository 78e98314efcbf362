-- What the reading functions answer for what the definitions say.
use Rattle.std.specs.Prelude.{ℕ, List, length}
use Rattle.std.proofs.Math.Option.{Option, none, some}
use Rattle.rules.specs.Access2000.{Prop}
use Rattle.walk2000.specs.declared.Extent.{Extent}
use Rattle.walk2000.specs.declared.Run.{Run}
use Rattle.walk2000.specs.declared.Opens.{Opens}

abbrev pub extent : ℕ × ℕ → Extent
extent x = record { start = x.0; size = x.1 }

abbrev pub value : Prop → Extent
value q = record { start = q.start; size = q.size }

abbrev pub run : List Prop × ℕ → Run
run x = record { count = length x.0; next = x.1 }

abbrev pub head_by : Option ℕ → ℕ → Opens
head_by none p = Opens.Plain p
head_by (some n) p = Opens.Listed n p

abbrev pub head : Option ℕ × ℕ → Opens
head x = head_by x.0 x.1
