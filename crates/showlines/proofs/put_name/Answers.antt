use Rattle.std.proofs.Common.{sym, ap, ◌∙◌, arith}
use Rattle.showtext.specs.Shown.{quoted}
use Rattle.text.proofs.Chain.{◌⨟◌, wrote_as}
use Rattle.showlines.proofs.LineLaws.{numbered, loose, with-name}
use Rattle.showlines.proofs.put_name.Goals as goal

pub returns-then-mark-eq-NAME_NUMBERED : goal.returns-then-mark-eq-NAME_NUMBERED
returns-then-mark-eq-NAME_NUMBERED c =
    let a = c.args in
    wrote_as (c.put_text-p.ensures ⨟ c.put_decimal.ensures) (sym (numbered a.stream.now a.mark a.start a.size (omega arith)))

pub returns-then-mark-eq-NAME_LOOSE : goal.returns-then-mark-eq-NAME_LOOSE
returns-then-mark-eq-NAME_LOOSE c =
    let a = c.args in
    wrote_as c.put_loose.ensures (sym (loose a.stream.now a.mark a.start a.size (omega arith)))

pub returns : goal.returns
returns c =
    let a = c.args in
    wrote_as c.put_quoted.ensures
    (ap quoted c.value_bytes.ensures ∙ sym (with-name a.stream.now a.mark a.start a.size (λ e. omega arith) (λ e. omega arith)))
