use Rattle.std.proofs.Common.{arith}
use Rattle.tally.proofs.TypeLaws.{codes_ascend, place-low, place_inside, place-small, place_found}
use Rattle.tally.proofs.type_place.Goals as goal

pub returns-then-type_code-lt-FIRST_TYPE : goal.returns-then-type_code-lt-FIRST_TYPE
returns-then-type_code-lt-FIRST_TYPE c = place-low c.args.type_code c.if-type_code-lt-FIRST_TYPE.true

pub place_in-i-requires : goal.place_in-i-requires
place_in-i-requires c = codes_ascend

pub offset_bounds-places-i : goal.offset_bounds-places-i
offset_bounds-places-i c = omega (arith, place_inside _ c.place_in-i.ensures)

pub bounds-places-i : goal.bounds-places-i
bounds-places-i c = place_inside _ c.place_in-i.ensures

pub overflow_cast-result : goal.overflow_cast-result
overflow_cast-result c = omega (arith, place-small _ c.place_in-i.ensures)

pub returns : goal.returns
returns c = place_found _ c.place_in-i.ensures
