use Rattle.std.proofs.Common.{sym, ◌∙◌}
use Rattle.difflist.proofs.Answers.{same-why, other-why}
use Rattle.difflist.proofs.put_why_not.Goals as goal

pub returns-then-not-same_head : goal.returns-then-not-same_head
returns-then-not-same_head c =
    rw (other-why c.args.older.now c.args.newer.now (sym c.same_head.ensures ∙ c.if-not-same_head.true)) c.put_why.ensures

pub returns : goal.returns
returns c =
    rw (same-why c.args.older.now c.args.newer.now (sym c.same_head.ensures ∙ c.if-not-same_head.false), sym c.first_lack-lack.ensures) c.put_lack.ensures
