use native.Mathlib.Omega.{arith}
use mathlib.Core.Path.{◌≡◌, refl, sym, ◌∙◌}
use mathlib.Core.Bool.{Bool, true, false, not}
use Rattle.csvwrite.proofs.RoomLaws.{not_read, few-controls, by-properties}
use Rattle.csvwrite.proofs.enough.Goals as goal

no : (t : Bool) → not t ≡ true → t ≡ false
no true e = sym e
no false e = refl

yes : (t : Bool) → not t ≡ false → t ≡ true
yes true e = refl
yes false e = sym e

pub returns-then-not-is_read : goal.returns-then-not-is_read
returns-then-not-is_read c =
    not_read _ _ _ (sym c.is_read.ensures ∙ no _ c.if-not-is_read.true-raw)

pub returns-then-control_words-needed : goal.returns-then-control_words-needed
returns-then-control_words-needed c =
    few-controls c.args.needed _ _ (omega arith)

pub returns : goal.returns
returns c =
    by-properties c.args.needed _ _ (sym c.is_read.ensures ∙ yes _ c.if-not-is_read.false-raw) (omega arith)
