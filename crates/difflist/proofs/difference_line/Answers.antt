use Rattle.difflist.proofs.Words.{line_wrote}
use Rattle.difflist.proofs.difference_line.Goals as goal

pub returns : goal.returns
returns c =
    let a = c.args in
    line_wrote a.rows.now a.controls.now a.n c.part_of-row.ensures c.second_word-control.ensures c.part_of-named.ensures
    c.put_byte-p.ensures c.put_words-p.ensures c.put_words-p-2.ensures c.put_end.ensures
