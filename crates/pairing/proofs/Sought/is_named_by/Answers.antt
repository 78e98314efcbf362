-- What tells the names apart, in the order in which it is asked.
use native.Mathlib.Omega.{arith}
use Rattle.std.proofs.Common.{◌≡◌, ◌∙◌, refl}
use Rattle.pairing.proofs.TypeLaws.{info_inside, cut_skipped, other-size, name_compared, name-other}
use Rattle.pairing.proofs.Sought.is_named_by.Goals as goal

pub returns-then-info-ne0 : goal.returns-then-info-ne0
returns-then-info-ne0 c = cut_skipped c.args.self.stream.now c.args.t.now c.args.self.name c.args.info (λ (e : c.args.info.cut ≡ 0). omega arith)

pub returns-then-info-self : goal.returns-then-info-self
returns-then-info-self c = other-size c.args.self.stream.now c.args.t.now c.args.self.name c.args.info c.requires c.if-info-self.true

pub ends_at-requires : goal.ends_at-requires
ends_at-requires c = omega (arith, info_inside c.args.self.stream.now c.args.t.now c.args.self.name c.args.info c.requires)

pub is_at-requires : goal.is_at-requires
is_at-requires c = omega (arith, info_inside c.args.self.stream.now c.args.t.now c.args.self.name c.args.info c.requires)

pub returns-then-ends_at : goal.returns-then-ends_at
returns-then-ends_at c = name_compared c.args.self.stream.now c.args.t.now c.args.self.name c.args.info _ (omega arith) (omega arith) c.is_at.ensures

pub returns-else-ends_at : goal.returns-else-ends_at
returns-else-ends_at c =
    c.if-ends_at.false ∙ name-other c.args.self.stream.now c.args.t.now c.args.self.name c.args.info (omega arith) (omega arith) (c.if-ends_at.ensures refl)
