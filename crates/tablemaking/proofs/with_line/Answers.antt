use Rattle.std.proofs.Common.{◌≡◌, refl, ap, ◌∙◌, Ok}
use Rattle.tablelines.specs.Items.{Nothing, said}
use Rattle.tablelines.proofs.ItemLaws.{raised}
use Rattle.tablemaking.specs.Judged.{fault_of, after}
use Rattle.tablemaking.proofs.with_line.Goals as goal

pub returns-in_err-item : goal.returns-in_err-item
unfolding fault_of
returns-in_err-item c = rw (raised _ _ c.from_residual.ensures.1, c.in_err-item.was) refl

pub returns-in-Nothing : goal.returns-in-Nothing
unfolding fault_of after
returns-in-Nothing c =
    let e : said c.args.item ≡ Nothing = ap said c.in_ok-item.was ∙ ap (λ x. said (Ok x)) c.in-Nothing.is in
    rw e (record { kept = refl; is = refl })
