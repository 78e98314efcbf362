-- Names of one length are compared from the last byte on.
use Rattle.std.proofs.Common.{◌∙◌, reverse, rules, tests}
use Rattle.std.proofs.lemmas.List.{length-reverse}
use borrow.Author.Tests.{ne_eqb}
use Rattle.std.proofs.lemmas.Iterator.{YieldsList-from_zip, same_from_all}
use Rattle.std.proofs.lemmas.Iterator.Adapters.{YieldsList-from_rev_slice}
use Rattle.panel.proofs.NameLaws.{turned, other_length}
use Rattle.panel.proofs.same_bytes.Goals as goal

pub returns-then-a-b : goal.returns-then-a-b
returns-then-a-b c =
    turned _ c.args.a.now c.args.b.now
    (same_from_all c.all.new.self _ c.all.result (reverse c.args.a.now) (reverse c.args.b.now) c.all.ensures.ran (YieldsList-from_zip {s = c.zip.result} (YieldsList-from_rev_slice {s = c.zip.result.a} c.args.a.now (cc)) (YieldsList-from_rev_slice {s = c.zip.result.b} c.args.b.now (cc)))
    (simp length-reverse c.if-a-b.true) (λ x q k. search (rules, tests)) (λ x q k. search (rules, tests)))

pub returns-else-a-b : goal.returns-else-a-b
returns-else-a-b c = ne_eqb _ _ c.if-a-b.false ∙ other_length c.args.a.now c.args.b.now c.if-a-b.false
