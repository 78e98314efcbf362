use Rattle.std.proofs.Common.{arith, rules, length, get_or, refl, sym, ◌≡◌, ◌≤◌, ◌+◌, ◌∙◌}
use Rattle.totals.specs.Laid.{laid}
use Rattle.totals.proofs.SumLaws.{part-many, fit_parts, sum_is}
use Rattle.totals.proofs.sum_of.Goals as goal

pub add_all-requires : goal.add_all-requires
unfolding laid
add_all-requires c =
    let p : length c.args.old.answers ≡ 6 = search rules in
    (p ∙ sym (part-many c.args.words.now 0 6 c.requires.0 (omega arith)), (fit_parts c.args.old (laid c.args.words.now) c.requires.1).answers)

pub add_all-requires-2 : goal.add_all-requires-2
unfolding laid
add_all-requires-2 c =
    let p : length c.args.old.types ≡ 31 = search rules in
    (p ∙ sym (part-many c.args.words.now 6 31 c.requires.0 (omega arith)), (fit_parts c.args.old (laid c.args.words.now) c.requires.1).types)

pub add_all-requires-3 : goal.add_all-requires-3
unfolding laid
add_all-requires-3 c =
    let p : length c.args.old.marks ≡ 9 = search rules in
    (p ∙ sym (part-many c.args.words.now 39 9 c.requires.0 (omega arith)), (fit_parts c.args.old (laid c.args.words.now) c.requires.1).marks)

pub overflow_add-result : goal.overflow_add-result
unfolding laid
overflow_add-result c =
    let h : c.args.old.unmapped + get_or c.args.words.now 37 0 ≤ 4294967295 = (fit_parts c.args.old (laid c.args.words.now) c.requires.1).unmapped in
    omega (arith, h)

pub overflow_add-result-2 : goal.overflow_add-result-2
unfolding laid
overflow_add-result-2 c =
    let h : c.args.old.mapped + get_or c.args.words.now 38 0 ≤ 4294967295 = (fit_parts c.args.old (laid c.args.words.now) c.requires.1).mapped in
    omega (arith, h)

pub returns : goal.returns
unfolding laid
returns c = sum_is c.args.old (laid c.args.words.now) _ c.add_all.ensures c.add_all-2.ensures c.add_all-3.ensures refl refl
