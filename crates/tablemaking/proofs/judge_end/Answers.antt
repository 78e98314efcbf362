use Rattle.std.proofs.Common.{sym}
use Rattle.tablemaking.proofs.Judging.{no-layout, all-kept}
use Rattle.tablemaking.proofs.judge_end.Goals as goal

pub returns-in-Some : goal.returns-in-Some
returns-in-Some c = sym (all-kept _ _ c.in-Some.is)

pub returns-in-None : goal.returns-in-None
returns-in-None c = sym (no-layout _ _ c.in-None.is)
