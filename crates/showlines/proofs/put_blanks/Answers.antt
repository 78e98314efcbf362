use Rattle.std.proofs.Common.{◌≡◌, ◌+◌, ◌-◌, ◌++◌, ap, ◌∙◌, arith}
use Rattle.rules.specs.Lists.{text}
use Rattle.text.proofs.Remains.{all_remains, on, done}
use Rattle.showlines.specs.Lines.{blanks}
use Rattle.showlines.proofs.LineLaws.{deeper, deep_enough}
use Rattle.showlines.proofs.put_blanks.Goals as goal

pub loop-init : goal.loop-init
loop-init c = let e : c.args.depth - 0 ≡ c.args.depth = omega arith in rw e all_remains

pub loop-preserved : goal.loop-preserved
loop-preserved c =
    let l = c.loop in
    let left = c.args.depth - l.counter in
    let e : left - 1 ≡ c.args.depth - (l.counter + 1) = omega arith in
    on l.invariant (deeper left (omega arith) ∙ ap (λ d. text "  " ++ blanks d) e) c.put_text-p.ensures

pub returns : goal.returns
returns c = let l = c.loop in done l.invariant (deep_enough (c.args.depth - l.counter) (omega arith))
