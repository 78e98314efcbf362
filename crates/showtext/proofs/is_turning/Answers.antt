use native.Mathlib.Omega.{arith}
use Rattle.showtext.proofs.ShownLaws.{before-marks, a_mark, before_breaks, a_break, before_isolates, an_isolate, after_isolates}
use Rattle.showtext.proofs.is_turning.Goals as goal

pub returns-then-c-lt8206 : goal.returns-then-c-lt8206
returns-then-c-lt8206 c = before-marks _ (omega arith)

pub returns-then-c-le8207 : goal.returns-then-c-le8207
returns-then-c-le8207 c = a_mark _ (omega arith) (omega arith)

pub returns-then-c-lt8232 : goal.returns-then-c-lt8232
returns-then-c-lt8232 c = before_breaks _ (omega arith) (omega arith)

pub returns-then-c-le8238 : goal.returns-then-c-le8238
returns-then-c-le8238 c = a_break _ (omega arith) (omega arith) (omega arith)

pub returns-then-c-lt8294 : goal.returns-then-c-lt8294
returns-then-c-lt8294 c = before_isolates _ (omega arith) (omega arith)

pub returns-then-c-le8297 : goal.returns-then-c-le8297
returns-then-c-le8297 c = an_isolate _ (omega arith) (omega arith) (omega arith)

pub returns : goal.returns
returns c = after_isolates _ (omega arith)
