use Rattle.std.proofs.Common.{arith}
use Rattle.countlater.proofs.CountLaws.{within_object, counted_scan, counted_tree}
use Rattle.countlater.proofs.count.Goals as goal

pub returns-in-Some : goal.returns-in-Some
returns-in-Some c = counted_tree _ c.requires c.parse_group-own.ensures c.in-Some.ensures

pub count_scanned-requires : goal.count_scanned-requires
count_scanned-requires c = omega (arith, within_object _ c.requires c.parse_group-own.ensures)

pub returns-in-None : goal.returns-in-None
returns-in-None c = counted_scan _ c.requires c.parse_group-own.ensures c.count_scanned.ensures c.in-None.ensures
