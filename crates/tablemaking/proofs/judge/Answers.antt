use Rattle.std.proofs.Common.{ℕ, ◌+◌, sym, ap, ◌∙◌, drop, refl, arith}
use Rattle.tablelines.specs.Items.{items_of, said}
use Rattle.tablemaking.specs.Judged.{judged, judge_from, broken}
use Rattle.tablemaking.specs.declared.Seen.{Seen}
use Rattle.tablemaking.proofs.Judging.{rows-after, numbered, judge_done, fault_found, no_fault}
use Rattle.tablemaking.proofs.judge.Goals as goal

pub returns-in-Err : goal.returns-in-Err
unfolding judged
returns-in-Err c =
    let l = c.loop-at in
    let e = c.in-Err.ensures in
    ap (λ (n : ℕ). broken n (l.lines + 1)) e ∙ sym (l.invariant.decide ∙ fault_found l.seen l.lines c.line_at-line.ensures refl (λ z. numbered _ (e ∙ z)))

pub loop-at-preserved : goal.loop-at-preserved
loop-at-preserved c =
    let l = c.loop-at in
    let i = l.invariant in
    let line = c.line_at-line in
    let n = c.in-Ok.ensures in
    let r = rows-after l.seen (said line.result.item) in
    let e = ap (λ (x : Seen). x.rows) n.is in
    record {
      decide =
          i.decide
          ∙ no_fault l.seen l.lines line.ensures (sym n.kept) refl
          ∙ ap (λ (x : Seen). judge_from x (l.lines + 1) (items_of (drop line.result.next c.args.text.now))) (sym n.is);
      few = omega (arith, i.few, r, e);
      counted = omega (arith, i.counted, line.ensures.on);
      within = line.ensures.within;
      short = i.short;
    }

pub returns : goal.returns
unfolding judged
returns c =
    let l = c.loop-at in
    c.judge_end.ensures ∙ sym (l.invariant.decide ∙ judge_done c.args.text.now l.at l.seen l.lines (omega (arith, c.loop-at-test.false)))
