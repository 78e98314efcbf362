use Rattle.csvlater.proofs.Whole.{short-done}
use Rattle.csvlater.proofs.sheet_left.Goals as goal

pub returns-then-s-lt-OBJECT_AT : goal.returns-then-s-lt-OBJECT_AT
returns-then-s-lt-OBJECT_AT c = short-done _ _ c.if-s-lt-OBJECT_AT.true
