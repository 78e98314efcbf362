-- The last letters, where they tell the names apart.
use native.Mathlib.Omega.{arith}
use Rattle.std.proofs.Common.{◌∙◌, ◌+◌, ◌-◌, sym, ap, ℕ}
use Rattle.rules.specs.Bytes.{byte}
use Rattle.pairing.specs.Wanted.{same_letter}
use Rattle.pairing.proofs.NameLaws.{any-other}
use Rattle.pairing.proofs.Sought.ends_at.Goals as goal

pub returns : goal.returns
returns c = λ e.
    let a = c.args in
    any-other a.self.stream.now a.t.now a.self.name a.at (a.self.name.letters - 1) (omega arith) (omega arith)
    (ap (λ (x : ℕ). same_letter x (byte a.t.now (a.at + (a.self.name.letters - 1)))) (sym c.letter.ensures) ∙ sym c.same_letter.ensures ∙ e)
