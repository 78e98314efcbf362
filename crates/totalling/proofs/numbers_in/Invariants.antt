use Rattle.std.proofs.Common.{◌≡◌, ◌+◌, ◌*◌, ◌<◌, ℕ, length, get_or}
use Rattle.rules.specs.Bytes.{u32}
use Rattle.totalling.proofs.numbers_in.Given as goal

abbrev pub invariant-loop-i : goal.invariant-loop-i
invariant-loop-i g l = (length l.n-items ≡ l.i-end) × ((k : ℕ) → k < l.i → get_or l.n-items k 0 ≡ u32 l.input (l.at + 4 * k))
