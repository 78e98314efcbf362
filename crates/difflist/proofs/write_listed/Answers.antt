use Rattle.difflist.specs.Listed.{said, listed_after}
use Rattle.difflist.proofs.Printing.{refused-written, cut-written}
use Rattle.difflist.proofs.write_listed.Goals as goal

pub returns-in_default : goal.returns-in_default
returns-in_default c =
    let a = c.args in
    refused-written (λ older rest. listed_after older rest a.rows.now a.controls.now a.properties.now) a.input.now a.rows.now c.in_default.ensures c.refusal_line.ensures

pub returns-in_default-cut_table : goal.returns-in_default-cut_table
returns-in_default-cut_table c =
    let a = c.args in
    let f = c.in-Some in
    cut-written (λ older rest. listed_after older rest a.rows.now a.controls.now a.properties.now) a.input.now a.rows.now f.ensures
    (refused-written (λ newer s. said f.older.now newer s a.rows.now a.controls.now a.properties.now) f.rest.now a.rows.now
    c.in_default-cut_table.ensures c.refusal_line-in_default-cut_table.ensures)

pub returns : goal.returns
returns c =
    let a = c.args in
    let f = c.in-Some in
    cut-written (λ older rest. listed_after older rest a.rows.now a.controls.now a.properties.now) a.input.now a.rows.now f.ensures
    (cut-written (λ newer s. said f.older.now newer s a.rows.now a.controls.now a.properties.now) f.rest.now a.rows.now
    c.in-Some-cut_table.ensures c.write_said.ensures)
