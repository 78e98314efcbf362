-- What is left to compare from letter `i` on decides.
use Rattle.std.proofs.Common.{◌≡◌}
use Rattle.rules.specs.Bytes.{part}
use Rattle.rules.specs.Pairing.{names_match}
use Rattle.pairing.specs.Wanted.{name_of}
use Rattle.pairing.proofs.NameLaws.{left}
use Rattle.pairing.proofs.Sought.is_at.Given as goal

abbrev pub invariant-loop-i : goal.invariant-loop-i
invariant-loop-i l = names_match (name_of l.self.stream.now l.self.name) (part l.t l.at l.self.name.letters) ≡ left l.self.stream.now l.t l.self.name l.at l.i
