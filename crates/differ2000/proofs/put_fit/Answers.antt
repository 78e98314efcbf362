use Rattle.std.proofs.Common.{ℕ, List, [], ◌∷◌, ap, ◌∙◌}
use borrow.Author.Tests.{le-leb}
use Rattle.rules.specs.Rows.{difference_width}
use Rattle.rows.specs.Put.{put}
use Rattle.differ2000.specs.Listing.{put_fit}
use Rattle.differ2000.proofs.put_fit.Goals as goal

pub returns-then-at-rows : goal.returns-then-at-rows
unfolding put_fit
returns-then-at-rows c =
    rw (le-leb _ _ c.if-at-rows.true) (c.put_row.ensures ∙ ap (λ (w : List ℕ). put difference_width c.args.rows.now c.args.at (w ∷ [])) c.words.ensures)
