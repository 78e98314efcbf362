-- A refusal, or the types set.
use Rattle.std.proofs.Common.{◌∙◌, sym}
use Rattle.pairing.proofs.ExitLaws.{refused-exit, paired-exit}
use Rattle.pairing.proofs.pair.Goals as goal

pub returns-then-not-may_pair : goal.returns-then-not-may_pair
returns-then-not-may_pair c =
    let told = refused-exit c.args.stream.now c.args.controls.now c.args.control_count c.args.info_stream.now c.args.infos.now c.args.info_count _ (sym c.may_pair.ensures ∙ c.if-not-may_pair.true) c.refused.ensures in
    record { value = told.0; controls_after = told.1 }

pub returns : goal.returns
returns c =
    let told = paired-exit c.args.stream.now c.args.controls.now c.args.control_count c.args.info_stream.now c.args.infos.now c.args.info_count _ _ (sym c.may_pair.ensures ∙ c.if-not-may_pair.false) c.wrote.ensures c.set_types.ensures in
    record { value = told.0; controls_after = told.1 }
