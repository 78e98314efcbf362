use Rattle.csvwrite.proofs.ExitLaws.{old-ready, new_ready, old-done, new_done}
use Rattle.csvwrite.proofs.records_left.Goals as goal

pub sheet_left-requires : goal.sheet_left-requires
sheet_left-requires c =
    old-ready c.requires c.is_2000.ensures c.if-is_2000.true

pub returns-then-is_2000 : goal.returns-then-is_2000
returns-then-is_2000 c =
    old-done c.requires c.is_2000.ensures c.if-is_2000.true c.sheet_left.ensures

pub sheet_left-requires-2 : goal.sheet_left-requires-2
sheet_left-requires-2 c =
    new_ready c.requires c.is_2000.ensures

pub returns : goal.returns
returns c =
    new_done c.requires c.is_2000.ensures c.if-is_2000.false _ _ c.sheet_left-2.ensures
