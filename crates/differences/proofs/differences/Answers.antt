-- `differences` meets the equation with `differences_exit`: the refusals in their order, then the list.
use Rattle.std.proofs.Common.{◌≤◌, length, sym, arith}
use Rattle.differences.proofs.Exits.{seen_some, seen_none, five, eight-older, eight-newer, nineteen, four, stream-ready, by_2000, by-later}
use Rattle.differences.proofs.differences.Goals as goal

pub returns-then-stream-gt-LONGEST : goal.returns-then-stream-gt-LONGEST
returns-then-stream-gt-LONGEST c = five _ _ _ _ (omega arith) c.refused.ensures

pub returns-then-not-well_formed : goal.returns-then-not-well_formed
returns-then-not-well_formed c = eight-older _ _ _ _ (omega arith) (sym c.if-not-well_formed.ensures) c.refused-then-not-well_formed.ensures

pub returns-then-not-well_formed-2 : goal.returns-then-not-well_formed-2
returns-then-not-well_formed-2 c =
    eight-newer _ _ _ _ (omega arith) (sym c.if-not-well_formed.ensures) (sym c.if-not-well_formed-2.ensures) c.refused-then-not-well_formed-2.ensures

pub succeeds-requires : goal.succeeds-requires
succeeds-requires c = sym c.if-not-well_formed-2.ensures

pub returns-then-not-succeeds : goal.returns-then-not-succeeds
returns-then-not-succeeds c =
    nineteen _ _ _ _ (omega arith) (sym c.if-not-well_formed.ensures) (sym c.if-not-well_formed-2.ensures) (sym c.if-not-succeeds.ensures) c.refused-then-not-succeeds.ensures

pub returns-then-seen-eq-NO_READING : goal.returns-then-seen-eq-NO_READING
returns-then-seen-eq-NO_READING c =
    let short : length c.args.stream.now ≤ 16777216 = c.if-stream-gt-LONGEST.false in
    four _ _ _ _ short (sym c.if-not-well_formed.ensures) (sym c.if-not-well_formed-2.ensures) (sym c.if-not-succeeds.ensures)
    (seen_none _ _ _ _ short (sym c.if-not-well_formed.ensures) c.read_blob-seen.ensures c.if-seen-eq-NO_READING.true) c.refused-then-seen-eq-NO_READING.ensures

pub listed-requires : goal.listed-requires
listed-requires c =
    let short : length c.args.stream.now ≤ 16777216 = c.if-stream-gt-LONGEST.false in
    let f = seen_some _ _ _ _ short (sym c.if-not-well_formed.ensures) c.read_blob-seen.ensures c.if-seen-eq-NO_READING.false in
    stream-ready _ _ _ c.args.rows.now short (sym c.if-not-well_formed.ensures) (sym c.if-not-well_formed-2.ensures) (sym c.if-not-succeeds.ensures) f.reads f.many (sym c.if-is_2000.ensures)

pub returns-then-is_2000 : goal.returns-then-is_2000
returns-then-is_2000 c =
    let short : length c.args.stream.now ≤ 16777216 = c.if-stream-gt-LONGEST.false in
    let f = seen_some _ _ _ _ short (sym c.if-not-well_formed.ensures) c.read_blob-seen.ensures c.if-seen-eq-NO_READING.false in
    by_2000 _ _ _ _ short (sym c.if-not-well_formed.ensures) (sym c.if-not-well_formed-2.ensures) (sym c.if-not-succeeds.ensures) f.reads f.many (sym c.if-is_2000.ensures) c.listed.ensures

pub returns : goal.returns
returns c =
    let short : length c.args.stream.now ≤ 16777216 = c.if-stream-gt-LONGEST.false in
    let f = seen_some _ _ _ _ short (sym c.if-not-well_formed.ensures) c.read_blob-seen.ensures c.if-seen-eq-NO_READING.false in
    by-later _ _ _ _ short (sym c.if-not-well_formed.ensures) (sym c.if-not-well_formed-2.ensures) (sym c.if-not-succeeds.ensures) f.reads f.many (sym c.if-is_2000.ensures) c.counted.ensures
