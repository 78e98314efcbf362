use Rattle.std.proofs.Common.{rules, ◌≤◌, length, arith}
use Rattle.rules.specs.Listing.{answer_line}
use Rattle.listing.proofs.Longest.{answer-short}
use Rattle.difflist.proofs.Answers.{newer-formed, written-why, written-refused, written_full, written_lines}
use Rattle.difflist.proofs.write_said.Goals as goal

pub put_why_not-requires : goal.put_why_not-requires
put_why_not-requires c =
    let a = c.args in
    newer-formed a.older.now a.newer.now a.stream.now a.rows.now a.controls.now a.properties.now c.differences-a.ensures c.if-a-eq-NO_SUCCESSOR.true

pub returns-then-a-eq-NO_SUCCESSOR : goal.returns-then-a-eq-NO_SUCCESSOR
returns-then-a-eq-NO_SUCCESSOR c =
    let a = c.args in
    let r = c.differences-a.result in
    let short : length (answer_line r) ≤ 51 = answer-short r (search rules) (search rules) (search rules) (search rules) in
    written-why a.older.now a.newer.now a.stream.now a.rows.now a.controls.now a.properties.now c.differences-a.ensures
    c.answer_line-p.ensures short c.if-a-eq-NO_SUCCESSOR.true c.put_why_not.ensures

pub returns-then-a-ne0 : goal.returns-then-a-ne0
returns-then-a-ne0 c =
    let a = c.args in
    let r = c.differences-a.result in
    let short : length (answer_line r) ≤ 51 = answer-short r (search rules) (search rules) (search rules) (search rules) in
    written-refused a.older.now a.newer.now a.stream.now a.rows.now a.controls.now a.properties.now c.differences-a.ensures
    c.answer_line-p.ensures short c.if-a-eq-NO_SUCCESSOR.false c.if-a-ne0.true

pub returns-then-b-ne0 : goal.returns-then-b-ne0
returns-then-b-ne0 c =
    let a = c.args in
    let r = c.differences-a.result in
    let q = c.read_blob-b.result in
    let short : length (answer_line r) ≤ 51 = answer-short r (search rules) (search rules) (search rules) (search rules) in
    let second : length (answer_line q) ≤ 51 = answer-short q (search rules) (search rules) (search rules) (search rules) in
    written_full a.older.now a.newer.now a.stream.now a.rows.now a.controls.now a.properties.now c.differences-a.ensures
    c.answer_line-p.ensures short c.if-a-eq-NO_SUCCESSOR.false (omega (arith, c.if-a-ne0.false)) c.read_blob-b.ensures
    c.answer_line-p-2.ensures second c.if-b-ne0.true

pub returns : goal.returns
returns c =
    let a = c.args in
    let r = c.differences-a.result in
    let q = c.read_blob-b.result in
    let short : length (answer_line r) ≤ 51 = answer-short r (search rules) (search rules) (search rules) (search rules) in
    let second : length (answer_line q) ≤ 51 = answer-short q (search rules) (search rules) (search rules) (search rules) in
    written_lines a.older.now a.newer.now a.stream.now a.rows.now a.controls.now a.properties.now c.differences-a.ensures
    c.answer_line-p.ensures short c.if-a-eq-NO_SUCCESSOR.false (omega (arith, c.if-a-ne0.false)) c.read_blob-b.ensures
    c.answer_line-p-2.ensures second (omega (arith, c.if-b-ne0.false))
    (λ i. search rules) (λ i. search rules) c.difference_lines.ensures
