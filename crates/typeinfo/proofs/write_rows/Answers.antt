-- The refusals of the header and of the room, and all written.
use Rattle.std.proofs.Common.{sym, arith}
use Rattle.std.proofs.lemmas.Result.{err_from_is_err_and}
use Rattle.typeinfo.proofs.EntryLaws.{at_most}
use Rattle.typeinfo.proofs.ExitLaws.{accepted, refused, enough, no_room, all-written}
use Rattle.typeinfo.proofs.write_rows.Goals as goal

pub returns-in_err-count : goal.returns-in_err-count
returns-in_err-count c =
    let told = refused c.args.stream.now c.args.rows.now c.in_err-count.field-0.0 (sym c.in_err-count.ensures) in
    let p = err_from_is_err_and c.from_residual.result c.from_residual.ensures.1 in
    rw (p.1, p.2) (record { value = told.0; rows_after = told.1 })

pub room_for-requires : goal.room_for-requires
room_for-requires c = (accepted c.args.stream.now c.in_ok-count.count (sym c.in_ok-count.ensures)).header

pub returns-in_err-room_for : goal.returns-in_err-room_for
returns-in_err-room_for c =
    let told = no_room c.args.stream.now c.args.rows.now c.in_ok-count.count (sym c.in_ok-count.ensures) c.in_err-room_for.field-0.0 (sym c.in_err-room_for.ensures) in
    let p = err_from_is_err_and c.from_residual-in_err-room_for.result c.from_residual-in_err-room_for.ensures.1 in
    rw (p.1, p.2) (record { value = told.0; rows_after = told.1 })

pub write_entries-requires : goal.write_entries-requires
write_entries-requires c =
    let told = accepted c.args.stream.now c.in_ok-count.count (sym c.in_ok-count.ensures) in
    record { header = told.header; not_long = told.not_long; all-rows = omega (arith, enough _ _ c.in_ok-room_for.field-0 (sym c.in_ok-room_for.ensures)) }

pub overflow_cast-result : goal.overflow_cast-result
overflow_cast-result c = omega (arith, c.write_entries.ensures.value, at_most c.args.stream.now 32 c.in_ok-count.count)

pub returns : goal.returns
returns c =
    let wrote = c.write_entries.ensures in
    let told = all-written c.args.stream.now c.args.rows.now c.in_ok-count.count (sym c.in_ok-count.ensures) c.write_entries.result wrote.value
    (omega (arith, wrote.value, enough _ _ c.in_ok-room_for.field-0 (sym c.in_ok-room_for.ensures))) c.write_entries.new.rows wrote.rows_after in
    record { value = told.0; rows_after = told.1 }
