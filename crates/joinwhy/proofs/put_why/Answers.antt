use Rattle.text.proofs.Chain.{◌⨟◌}
use Rattle.joinwhy.proofs.Heads.{why_heads}
use Rattle.joinwhy.proofs.put_why.Goals as goal

pub returns-then-number-eq-OTHER_HEAD : goal.returns-then-number-eq-OTHER_HEAD
returns-then-number-eq-OTHER_HEAD c =
    rw (why_heads c.args.number c.args.one.now c.args.other.now c.if-number-eq-OTHER_HEAD.true) (c.put_head-p.ensures ⨟ c.put_head.ensures)
