use mathlib.Core.Path.{subst}
use Rattle.std.proofs.Common.{below_more}
use Rattle.utf16.proofs.Units.{Units}
use Rattle.csvtext.proofs.LetterLaws.{Letter, glanced, before-glanced, all_plainly}
use Rattle.csvtext.proofs.all_letters.Goals as goal

pub loop-unit-preserved : goal.loop-unit-preserved
loop-unit-preserved c t =
    below_more _ _ (c.loop-unit.invariant (before-glanced _ _ t))
    (subst Letter c.from_le_bytes-u.ensures (glanced _ _ _ c.is_letter.ensures t))

pub returns : goal.returns
returns c e =
    let U : Units c.args.bytes.now _ = record { are = c.as_chunks.ensures.front } in
    all_plainly U c.loop-unit.unit-index (c.loop-unit.invariant e) c.loop-unit.auto.unit-index-end c.loop-unit-test.false
