use native.Mathlib.Omega.{arith}
use Rattle.csvlaws.proofs.CsvLaws.{countable-most}
use Rattle.csvwrite.proofs.ExitLaws.{fits-done}
use Rattle.csvwrite.proofs.text_fits.Goals as goal

pub overflow_add-countable : goal.overflow_add-countable
overflow_add-countable c =
    record { fits = omega (arith, c.countable.ensures, countable-most c.args.room) }

pub records_left-requires : goal.records_left-requires
records_left-requires c =
    c.requires

pub returns : goal.returns
returns c =
    fits-done c.args.room (omega (arith, c.saturating_sub-all.ensures, c.countable.ensures)) c.records_left.ensures
