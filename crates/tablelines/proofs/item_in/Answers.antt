use Rattle.std.proofs.Common.{◌∙◌}
use Rattle.tablelines.proofs.LineLaws.{words_in}
use Rattle.tablelines.proofs.item_in.Goals as goal

pub returns : goal.returns
returns c =
    let a = c.word_of.ensures in
    let b = c.word_of-2.ensures in
    let d = c.word_of-3.ensures in
    c.item_by.ensures ∙ words_in _ a.word a.rest b.word b.rest d.word d.rest c.word_of-4.ensures.word c.is_empty.ensures
