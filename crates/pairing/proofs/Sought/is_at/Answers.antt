-- The two letters of a turn, as they were compared, and what they tell of the names.
use native.Mathlib.Omega.{arith}
use Rattle.std.proofs.Common.{◌+◌, ◌∙◌, sym, ap, ℕ}
use Rattle.rules.specs.Bytes.{byte}
use Rattle.pairing.specs.Wanted.{same_letter}
use Rattle.pairing.proofs.NameLaws.{whole, letter-same, letter-other, no-letter}
use Rattle.pairing.proofs.Sought.is_at.Goals as goal

pub loop-i-init : goal.loop-i-init
loop-i-init c = sym (whole c.args.self.stream.now c.args.t.now c.args.self.name c.args.at)

pub returns-then-not-same_letter : goal.returns-then-not-same_letter
returns-then-not-same_letter c =
    let a = c.args in
    sym (c.loop-i.invariant ∙ letter-other a.self.stream.now a.t.now a.self.name a.at c.loop-i.i (omega arith) (omega arith)
    (ap (λ (x : ℕ). same_letter x (byte a.t.now (a.at + c.loop-i.i))) (sym c.letter.ensures) ∙ sym c.same_letter.ensures ∙ c.if-not-same_letter.true))

pub loop-i-preserved : goal.loop-i-preserved
loop-i-preserved c =
    let a = c.args in
    c.loop-i.invariant ∙ letter-same a.self.stream.now a.t.now a.self.name a.at c.loop-i.i (omega arith) (omega arith)
    (ap (λ (x : ℕ). same_letter x (byte a.t.now (a.at + c.loop-i.i))) (sym c.letter.ensures) ∙ sym c.same_letter.ensures ∙ c.if-not-same_letter.false)

pub returns : goal.returns
returns c = sym (c.loop-i.invariant ∙ no-letter c.args.self.stream.now c.args.t.now c.args.self.name c.args.at c.loop-i.i (omega arith))
