use mathlib.Core.Bool.{false}
use mathlib.Core.Path.{◌≡◌, ◌∙◌}
use native.Mathlib.Omega.{arith}
use lib.ListN.{length}
use borrow.Author.Tests.{eqb-true}
use Rattle.rules.specs.Utf16.{is_utf16_lem}
use Rattle.utf16.proofs.Units.{all_read}
use Rattle.utf16.proofs.is_plain.Goals as goal

pub returns : goal.returns
unfolding is_utf16_lem
returns c e =
    let p = c.past_plain in
    let s = c.args.bytes.now in
    let all : p.result ≡ length s = eqb-true _ _ e in
    p.ensures.same ∙ all_read s p.result false (omega arith) (omega arith) (omega arith)
