-- A row by its mark, and by where its name stands.
use native.Mathlib.Omega.{arith}
use Rattle.std.proofs.Common.{◌≡◌, ◌∙◌}
use Rattle.pairing.proofs.RowLaws.{mark-above, numbered-ok, other-ok, control-ok}
use Rattle.pairing.proofs.control_ok.Goals as goal

pub returns-then-row-gt-NAME_LOOSE : goal.returns-then-row-gt-NAME_LOOSE
returns-then-row-gt-NAME_LOOSE c = mark-above c.args.s.now c.get_control-row.result (omega arith) ∙ control-ok c.get_control-row.ensures c.args.s.now

pub returns-then-row-eq-NAME_NUMBERED : goal.returns-then-row-eq-NAME_NUMBERED
returns-then-row-eq-NAME_NUMBERED c = numbered-ok c.args.s.now c.get_control-row.result (omega arith) ∙ control-ok c.get_control-row.ensures c.args.s.now

pub returns : goal.returns
returns c = other-ok c.args.s.now c.get_control-row.result _ (omega arith) (λ (e : c.get_control-row.result.mark ≡ 1). omega arith) c.is_named.ensures ∙ control-ok c.get_control-row.ensures c.args.s.now
