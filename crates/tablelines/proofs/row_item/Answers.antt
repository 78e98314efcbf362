use Rattle.std.proofs.Common.{ap, sym, ◌∙◌, arith, Err}
use Rattle.tablelines.specs.Items.{Row, said}
use Rattle.tablelines.proofs.WordLaws.{none_above, some_below}
use Rattle.tablelines.proofs.ItemLaws.{raised, missed, no-id, row_more, no_target, row-kind, a_row}
use Rattle.tablelines.proofs.row_item.Goals as goal

pub returns-in_err-id : goal.returns-in_err-id
returns-in_err-id c =
    let v = c.in_err-id.ensures in
    let h = none_above (sym v.ok_part ∙ c.two_of.ensures) in
    ap said (raised _ _ c.from_residual.ensures.1 ∙ ap Err (missed _ v.value v.ok_part)) ∙ sym (no-id _ _ _ _ (omega arith))

pub returns-then-more : goal.returns-then-more
returns-then-more c =
    let h = some_below (sym c.in_ok-id.ensures.ok_part ∙ c.two_of.ensures) in
    sym (row_more _ _ _ _ (omega (arith, h.1)) c.if-more.true)

pub returns-in_err-target : goal.returns-in_err-target
returns-in_err-target c =
    let h = some_below (sym c.in_ok-id.ensures.ok_part ∙ c.two_of.ensures) in
    let v = c.in_err-target.ensures in
    let k = none_above (sym v.ok_part ∙ c.four_of.ensures) in
    ap said (raised _ _ c.from_residual-in_err-target.ensures.1 ∙ ap Err (missed _ v.value v.ok_part))
    ∙ sym (no_target _ _ _ _ (omega (arith, h.1)) c.if-more.false (omega arith))

pub returns-in_err-kind : goal.returns-in_err-kind
returns-in_err-kind c =
    let h = some_below (sym c.in_ok-id.ensures.ok_part ∙ c.two_of.ensures) in
    let t = some_below (sym c.in_ok-target.ensures.ok_part ∙ c.four_of.ensures) in
    let v = c.in_err-kind.ensures in
    let k = none_above (sym v.ok_part ∙ c.row_kind_of.ensures) in
    ap said (raised _ _ c.from_residual-in_err-kind.ensures.1 ∙ ap Err (missed _ v.value v.ok_part))
    ∙ sym (row-kind _ _ _ _ (omega (arith, h.1)) c.if-more.false (omega (arith, t.1)) (omega arith))

pub returns : goal.returns
returns c =
    let h = some_below (sym c.in_ok-id.ensures.ok_part ∙ c.two_of.ensures) in
    let t = some_below (sym c.in_ok-target.ensures.ok_part ∙ c.four_of.ensures) in
    let k = some_below (sym c.in_ok-kind.ensures.ok_part ∙ c.row_kind_of.ensures) in
    (λ i. Row (h.0 i) (t.0 i) (k.0 i)) ∙ sym (a_row _ _ _ _ (omega (arith, h.1)) c.if-more.false (omega (arith, t.1)) (omega (arith, k.1)))
