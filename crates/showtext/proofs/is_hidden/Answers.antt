use native.Mathlib.Omega.{arith}
use mathlib.Core.Path.{◌∙◌}
use Rattle.showtext.proofs.ShownLaws.{below_blank, a_sign, delete_on, a_letter-mark, after-controls}
use Rattle.showtext.proofs.is_hidden.Goals as goal

pub returns-then-c-lt32 : goal.returns-then-c-lt32
returns-then-c-lt32 c = below_blank _ (omega arith)

pub returns-then-c-lt127 : goal.returns-then-c-lt127
returns-then-c-lt127 c = a_sign _ (omega arith) (omega arith)

pub returns-then-c-le159 : goal.returns-then-c-le159
returns-then-c-le159 c = delete_on _ (omega arith) (omega arith) (omega arith)

pub returns-then-c-eq-LETTER_MARK : goal.returns-then-c-eq-LETTER_MARK
returns-then-c-eq-LETTER_MARK c = a_letter-mark _ (omega arith) (omega arith) (omega arith)

pub returns : goal.returns
returns c = c.is_turning.ensures ∙ after-controls _ (omega arith) (omega arith) (λ e. omega arith)
