use native.Mathlib.Omega.{arith}
use mathlib.Core.Path.{sym, ◌∙◌}
use Rattle.text.proofs.Arms.{past}
use Rattle.text.proofs.Written.{guid-length}
use Rattle.csvrecord.proofs.RecordLaws.{column_size, sixteen}
use Rattle.csvrecord.proofs.column_size.Goals as goal

pub returns-in-0 : goal.returns-in-0
returns-in-0 c = λ high size bytes. c.yes_size.ensures ∙ sym (column_size 0 c.in-0.is _ high size bytes)

pub returns-in-1 : goal.returns-in-1
returns-in-1 c = λ high size bytes. sym (column_size 1 c.in-1.is _ high size bytes)

pub returns-in-2 : goal.returns-in-2
returns-in-2 c = λ high size bytes. c.signed_size.ensures ∙ sym (column_size 2 c.in-2.is _ high size bytes)

pub returns-in-3 : goal.returns-in-3
returns-in-3 c = λ high size bytes. c.signed_size-in-3.ensures ∙ sym (column_size 3 c.in-3.is _ high size bytes)

pub returns-in-4 : goal.returns-in-4
returns-in-4 c =
    λ high size bytes. sym (column_size 4 c.in-4.is c.args.low high size bytes ∙ sixteen high c.args.low)

pub returns-in_default : goal.returns-in_default
returns-in_default c =
    λ high size bytes. sym (column_size 5 (omega (arith, past 5 _ c.in_default.in_default-own.rest, c.requires)) c.args.low high size bytes ∙ guid-length bytes)
