use Rattle.std.proofs.Common.{rules, ◌≤◌, length}
use Rattle.rules.specs.Listing.{answer_line}
use Rattle.listing.proofs.Longest.{answer-short}
use Rattle.totalling.proofs.Numbers.{said-short}
use Rattle.totalling.proofs.Printing.{said-written}
use Rattle.totalling.proofs.write_said.Goals as goal

pub returns : goal.returns
returns c =
    let a = c.args in
    let r = c.totalled-counted.result in
    let line-short : length (answer_line r.answer) ≤ 51 = answer-short r.answer (search rules) (search rules) (search rules) (search rules) in
    said-written a.input.now a.table.now a.stream.now c.record_in-old.ensures c.u32_at-controls.ensures c.u32_at-properties.ensures c.totalled-counted.ensures
    c.answer_line-p.ensures c.put_record.ensures.0 (said-short r line-short c.put_record.ensures.1)
