-- Those counted so far and those from `p` on, at each turn and where none is left.
use Rattle.std.proofs.Common.{◌+◌, ◌-◌, ap, length, arith}
use Rattle.typeinfo.proofs.EntryLaws.{none_left, none_asked, at_most_one, inside, counted_more}
use Rattle.typeinfo.proofs.count_entries.Goals as goal

pub returns-in_default : goal.returns-in_default
returns-in_default c = omega (arith, ap length (none_left c.args.s.now c.loop.p (c.args.count - c.loop.counter) c.in_default.ensures))

pub loop-preserved : goal.loop-preserved
loop-preserved c =
    let s = c.args.s.now in
    let e = c.in-Some.e in
    let left = c.args.count - (c.loop.counter + 1) in
    let read = c.in-Some.ensures in
    record {
      inside = inside s c.loop.p e read.1;
      few = omega (arith, at_most_one e.type_code);
      counts = omega (arith, counted_more s c.loop.p (c.args.count - c.loop.counter) left e read.1 read.0 (omega arith));
    }

pub returns : goal.returns
returns c = omega (arith, ap length (none_asked c.args.s.now c.loop.p (c.args.count - c.loop.counter) (omega arith)))
