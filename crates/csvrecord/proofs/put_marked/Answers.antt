use Rattle.text.proofs.Arms.{past}
use Rattle.csvrecord.proofs.RecordLaws.{marked, marked-last}
use Rattle.csvrecord.proofs.put_marked.Goals as goal

pub returns-in-0 : goal.returns-in-0
returns-in-0 c = marked 0 (search) (search)

pub returns-in-1 : goal.returns-in-1
returns-in-1 c = marked 1 (search) (search)

pub returns-in-2 : goal.returns-in-2
returns-in-2 c = marked 2 (search) (search)

pub returns-in-3 : goal.returns-in-3
returns-in-3 c = marked 3 (search) (search)

pub returns-in-4 : goal.returns-in-4
returns-in-4 c = marked 4 (search) (search)

pub returns-in-5 : goal.returns-in-5
returns-in-5 c = marked 5 (search) (search)

pub returns-in-6 : goal.returns-in-6
returns-in-6 c = marked 6 (search) (search)

pub returns-in-7 : goal.returns-in-7
returns-in-7 c = marked 7 (search) (search)

pub returns-in_default : goal.returns-in_default
returns-in_default c = marked-last (past 8 _ c.in_default.in_default-own.rest) (search)
