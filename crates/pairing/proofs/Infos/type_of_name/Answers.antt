-- The row of a turn: it has the name, or those after it decide.
use native.Mathlib.Omega.{arith}
use Rattle.std.proofs.Common.{◌∙◌, sym, ap}
use Rattle.rules.specs.Rows.{type_info_width}
use Rattle.rules.specs.Pairing.{type_by, is_named}
use Rattle.pairing.proofs.RowLaws.{found_nowhere, found_here, found-later, each_row, info_name, info_named}
use Rattle.pairing.proofs.Infos.type_of_name.Goals as goal

pub is_named_by-requires : goal.is_named_by-requires
is_named_by-requires c =
    let a = c.args.self in
    info_named c.get_info-info.ensures a.stream.now ∙ each_row (is_named a.stream.now) type_info_width a.count a.rows.now a.named c.loop-j.j (omega arith)

pub returns-then-is_named_by : goal.returns-then-is_named_by
returns-then-is_named_by c =
    let i = c.get_info-info.ensures in
    i.type-code ∙ sym (ap (type_by c.args.own) (found_here c.loop-j.invariant (omega arith) (c.is_named_by.ensures ∙ info_name i _ _) c.if-is_named_by.true))

pub loop-j-preserved : goal.loop-j-preserved
loop-j-preserved c = found-later c.loop-j.invariant (omega arith) (c.is_named_by.ensures ∙ info_name c.get_info-info.ensures _ _) c.if-is_named_by.false

pub returns : goal.returns
returns c = sym (ap (type_by c.args.own) (found_nowhere c.loop-j.invariant (omega arith)))
