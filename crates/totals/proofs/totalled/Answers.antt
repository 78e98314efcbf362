use Rattle.std.proofs.Common.{sym}
use Rattle.totals.proofs.AddsLaws.{numbered, next-adds, exit-no, exit-yes}
use Rattle.totals.proofs.totalled.Goals as goal

pub returns-then-not-fits : goal.returns-then-not-fits
returns-then-not-fits c = exit-no c.args.old c.args.table.now c.args.stream.now c.args.control_room c.args.property_room _ (next-adds c.counted-answer.ensures c.count_answer.ensures (numbered c.args.table.now c.args.stream.now c.args.control_room c.args.property_room)) (sym c.if-not-fits.ensures) c.refused.ensures

pub returns : goal.returns
returns c = exit-yes c.args.old c.args.table.now c.args.stream.now c.args.control_room c.args.property_room _ (next-adds c.counted-answer.ensures c.count_answer.ensures (numbered c.args.table.now c.args.stream.now c.args.control_room c.args.property_room)) (sym c.if-not-fits.ensures) c.counted-answer.ensures.answer-is c.sum_of.ensures
