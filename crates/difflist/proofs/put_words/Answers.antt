use Rattle.std.proofs.Common.{◌<◌, length, arith}
use Rattle.text.proofs.Chain.{nothing, ◌⨟◌}
use Rattle.difflist.specs.Lines.{spaced}
use Rattle.difflist.proofs.Words.{one_more}
use Rattle.difflist.proofs.put_words.Goals as goal

pub loop-word-init : goal.loop-word-init
unfolding spaced
loop-word-init c = nothing

pub loop-word-preserved : goal.loop-word-preserved
loop-word-preserved c =
    let l = c.loop-word in
    let h : l.word-index < length c.args.words.now = omega arith in
    rw (one_more c.args.words.now l.word-index h) (l.invariant ⨟ (c.put_byte-o.ensures ⨟ c.put_decimal-p.ensures))
