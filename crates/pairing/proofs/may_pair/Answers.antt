-- What is judged, in its order.
use native.Mathlib.Omega.{arith}
use Rattle.std.proofs.Common.{sym, ◌∙◌}
use Rattle.pairing.proofs.ExitLaws.{few-controls, few-infos, bad_controls, by-infos}
use Rattle.pairing.proofs.may_pair.Goals as goal

pub returns-then-controls-control_count : goal.returns-then-controls-control_count
returns-then-controls-control_count c =
    few-controls c.args.s.now c.args.controls.now c.args.control_count c.args.t.now c.args.infos.now c.args.info_count (omega arith)

pub returns-then-infos-info_count : goal.returns-then-infos-info_count
returns-then-infos-info_count c =
    few-infos c.args.s.now c.args.controls.now c.args.control_count c.args.t.now c.args.infos.now c.args.info_count (omega arith) (omega arith)

pub returns-then-not-controls_ok : goal.returns-then-not-controls_ok
returns-then-not-controls_ok c =
    bad_controls c.args.s.now c.args.controls.now c.args.control_count c.args.t.now c.args.infos.now c.args.info_count (omega arith) (omega arith)
    (sym c.controls_ok.ensures ∙ c.if-not-controls_ok.true)

pub returns : goal.returns
returns c =
    by-infos c.args.s.now c.args.controls.now c.args.control_count c.args.t.now c.args.infos.now c.args.info_count (omega arith) (omega arith)
    (sym c.controls_ok.ensures ∙ c.if-not-controls_ok.false) _ c.infos_ok.ensures
