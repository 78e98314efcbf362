use Rattle.std.proofs.Common.{◌+◌, ◌*◌, sym, ◌∙◌, refl, rules, arith, eqb, tests}
use Rattle.std.proofs.lemmas.Iterator.{YieldsList-from_range}
use Rattle.std.proofs.lemmas.Iterator.Search.{any_from_yields_List}
use Rattle.rules.specs.Bytes.{u16}
use Rattle.rules.specs.CodeTable.{header_count}
use Rattle.codetable.proofs.Steps.{has_by_one}
use Rattle.codetable.proofs.is_header.Goals as goal

pub returns : goal.returns
returns c =
    any_from_yields_List (λ k. eqb (u16 c.args.table.now (4 + 2 * k)) c.args.code) _ _ c.any.result c.any.ensures.ran
    (YieldsList-from_range 0 _ (header_count c.args.table.now) refl (omega (arith, c.byte_number.ensures.is)))
    (λ x b q k. search (rules, tests))
    ∙ sym (has_by_one c.args.table.now c.args.code 4 _ 0)
