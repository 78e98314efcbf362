use Rattle.std.proofs.Common.{sym}
use Rattle.totals.proofs.SumLaws.{five, eight, by_2000, by-later}
use Rattle.totals.proofs.counted.Goals as goal

pub returns-then-stream-gt-LONGEST : goal.returns-then-stream-gt-LONGEST
returns-then-stream-gt-LONGEST c = five c.args.table.now c.args.stream.now _ _ _ _ c.if-stream-gt-LONGEST.true c.refused.ensures

pub returns-then-not-well_formed : goal.returns-then-not-well_formed
returns-then-not-well_formed c = eight c.args.table.now c.args.stream.now _ _ _ _ c.if-stream-gt-LONGEST.false (sym c.if-not-well_formed.ensures) c.refused-then-not-well_formed.ensures

pub returns-then-is_2000 : goal.returns-then-is_2000
returns-then-is_2000 c = by_2000 c.args.table.now c.args.stream.now _ _ _ _ c.if-stream-gt-LONGEST.false (sym c.if-not-well_formed.ensures) (sym c.if-is_2000.ensures) c.tally.ensures

pub returns : goal.returns
returns c = by-later c.args.table.now c.args.stream.now _ _ _ _ c.if-stream-gt-LONGEST.false (sym c.if-not-well_formed.ensures) (sym c.if-is_2000.ensures) c.tally-2.ensures
