-- The rows written so far and those from `p` on, at each turn and where none is left.
use Rattle.std.proofs.Common.{◌+◌, ◌-◌, ◌∙◌, sym, ap₂, map, arith}
use Rattle.rules.specs.Rows.{type_info_width}
use Rattle.rules.specs.TypeInfo.{type_info_row}
use Rattle.rows.specs.Put.{put}
use Rattle.typeinfo.specs.Entries.{reported_at}
use Rattle.typeinfo.proofs.EntryLaws.{none_left, none_asked, at-end, inside, counted_more, put_more, row_room}
use Rattle.typeinfo.proofs.write_entries.Goals as goal

pub returns-in_default : goal.returns-in_default
returns-in_default c =
    let done = at-end c.args.s.now c.loop.p (c.args.count - c.loop.counter) _ _ _ _ (none_left c.args.s.now c.loop.p (c.args.count - c.loop.counter) c.in_default.ensures) c.loop.invariant.counts c.loop.invariant.words in
    record { value = done.0; rows_after = done.1 }

pub put_reported-at-requires : goal.put_reported-at-requires
put_reported-at-requires c =
    let read = c.in-Some.ensures in
    row_room c.args.s.now c.loop.p (c.args.count - c.loop.counter) (c.args.count - (c.loop.counter + 1)) c.in-Some.e read.1 read.0 (omega arith) _ _ c.requires.not_long
    (omega (arith, c.requires.all-rows, c.loop.invariant.counts))

pub loop-preserved : goal.loop-preserved
loop-preserved c =
    let s = c.args.s.now in
    let p = c.loop.p in
    let e = c.in-Some.e in
    let n = c.args.count - c.loop.counter in
    let left = c.args.count - (c.loop.counter + 1) in
    let read = c.in-Some.ensures in
    let call = c.put_reported-at in
    record {
      inside = inside s p e read.1;
      counts = omega (arith, call.ensures.value, counted_more s p n left e read.1 read.0 (omega arith), c.loop.invariant.counts);
      words = ap₂ (λ l a. put type_info_width l a (map type_info_row (reported_at s e.next left))) call.ensures.rows_after call.ensures.value
          ∙ sym (put_more s p n left e read.1 read.0 (omega arith) c.loop.rows c.loop.at) ∙ c.loop.invariant.words;
    }

pub returns : goal.returns
returns c =
    let done = at-end c.args.s.now c.loop.p (c.args.count - c.loop.counter) _ _ _ _ (none_asked c.args.s.now c.loop.p (c.args.count - c.loop.counter) (omega arith)) c.loop.invariant.counts c.loop.invariant.words in
    record { value = done.0; rows_after = done.1 }
