use Rattle.std.proofs.Common.{ℕ, ◌≡◌, ◌<◌, [], true, get_or}
use Rattle.std.specs.Int.{w16, from_le_bytes}
use Rattle.csvtext.proofs.LetterLaws.{Letter}
use Rattle.csvtext.proofs.all_letters.Given as goal

-- while `all` is true, each unit so far is a letter or a space
abbrev pub invariant-loop-unit : goal.invariant-loop-unit
invariant-loop-unit l = l.all ≡ true → (k : ℕ) → k < l.unit-index → Letter (from_le_bytes w16 (get_or l.units k []))
