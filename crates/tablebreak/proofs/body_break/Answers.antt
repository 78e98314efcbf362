use Rattle.std.proofs.Common.{sym, ◌∙◌, arith}
use Rattle.tablebreak.proofs.Turns.{told_broken, told_as, ends_at, rows_at, body-short, body-long, body-rows}
use Rattle.tablebreak.proofs.body_break.Goals as goal

pub bodies_end-end-requires : goal.bodies_end-end-requires
bodies_end-end-requires c =
    let p = c.requires in
    record { near = omega (arith, p.contents-are, p.bodies_are, p.there, p.short); bodies_near = omega (arith, p.few, p.there, p.short) }

pub rows_break-requires : goal.rows_break-requires
rows_break-requires c =
    let p = c.requires in
    record { near = omega (arith, p.contents-are, p.bodies_are, p.there, p.short); bodies_near = omega (arith, p.few, p.there, p.short) }

pub returns-then-size-end : goal.returns-then-size-end
returns-then-size-end c =
    told_broken (λ z. omega arith) c.broken.ensures (body-short c.args.table.now (c.bodies_end-end.ensures.is ∙ ends_at c.requires) c.if-size-end.true)

pub returns-then-end-size : goal.returns-then-end-size
returns-then-end-size c =
    told_broken (λ z. omega arith) c.broken-then-end-size.ensures
    (body-long c.args.table.now (c.bodies_end-end.ensures.is ∙ ends_at c.requires) c.if-size-end.false c.if-end-size.true)

pub returns : goal.returns
returns c =
    told_as _
    (body-rows c.args.table.now (c.bodies_end-end.ensures.is ∙ ends_at c.requires) c.if-size-end.false c.if-end-size.false ∙ sym (rows_at c.requires))
    c.rows_break.ensures
