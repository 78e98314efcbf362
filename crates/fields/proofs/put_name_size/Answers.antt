use native.Mathlib.Omega.{arith}
use Rattle.rules.specs.Bytes.{part}
use Rattle.text.proofs.Chain.{◌⨟◌}
use Rattle.fields.proofs.Fields.{numbered, loose, with-name}
use Rattle.fields.proofs.put_name_size.Goals as goal

pub returns-then-mark-eq-NAME_NUMBERED : goal.returns-then-mark-eq-NAME_NUMBERED
returns-then-mark-eq-NAME_NUMBERED c =
    let a = c.args in
    rw (numbered a.mark a.size (part a.stream.now a.start a.size) (omega arith)) c.put_byte.ensures

pub returns-then-mark-eq-NAME_LOOSE : goal.returns-then-mark-eq-NAME_LOOSE
returns-then-mark-eq-NAME_LOOSE c =
    let a = c.args in
    rw (loose a.mark a.size (part a.stream.now a.start a.size) (omega arith)) (c.put_decimal-p.ensures ⨟ c.put_byte-then-mark-eq-NAME_LOOSE.ensures)

pub returns : goal.returns
returns c =
    let a = c.args in
    rw (with-name a.mark a.size (part a.stream.now a.start a.size) (λ e. omega arith) (λ e. omega arith)) c.put_characters.ensures
