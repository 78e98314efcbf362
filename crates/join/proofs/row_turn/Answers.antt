use mathlib.Core.Path.{sym, ◌∙◌}
use Rattle.join.proofs.Turns.{alone-more, both}
use Rattle.join.proofs.RowLaws.{row-left, first-row, second-row, both_rows}
use Rattle.join.proofs.row_turn.Goals as goal

pub rows_after-rest-requires : goal.rows_after-rest-requires
rows_after-rest-requires c =
    row-left c.requires.walks.one_walk (alone-more _ _ _ _ (sym c.alone.ensures ∙ c.if-alone.true))

pub returns-then-alone : goal.returns-then-alone
returns-then-alone c =
    first-row c.requires.walks c.row_at-x.ensures c.row_at-y.ensures (sym c.alone.ensures ∙ c.if-alone.true) c.rows_after-rest.ensures

pub rows_after-rest-requires-then-alone-2 : goal.rows_after-rest-requires-then-alone-2
rows_after-rest-requires-then-alone-2 c =
    row-left c.requires.walks.other_walk (alone-more _ _ _ _ (sym c.alone-2.ensures ∙ c.if-alone-2.true))

pub returns-then-alone-2 : goal.returns-then-alone-2
returns-then-alone-2 c =
    second-row c.requires.walks c.row_at-x.ensures c.row_at-y.ensures (sym c.alone-2.ensures ∙ c.if-alone-2.true) c.rows_after-rest-then-alone-2.ensures

-- ---- past both tests
pub rows_after-front-requires : goal.rows_after-front-requires
rows_after-front-requires c =
    row-left c.requires.walks.one_walk (both _ _ _ _ c.requires.more (sym c.alone.ensures ∙ c.if-alone.false) (sym c.alone-2.ensures ∙ c.if-alone-2.false)).first

pub rows_after-back-requires : goal.rows_after-back-requires
rows_after-back-requires c =
    row-left c.requires.walks.other_walk (both _ _ _ _ c.requires.more (sym c.alone.ensures ∙ c.if-alone.false) (sym c.alone-2.ensures ∙ c.if-alone-2.false)).second

pub returns : goal.returns
returns c =
    both_rows c.requires.walks c.row_at-x.ensures c.row_at-y.ensures (both _ _ _ _ c.requires.more (sym c.alone.ensures ∙ c.if-alone.false) (sym c.alone-2.ensures ∙ c.if-alone-2.false)) c.same_row-agreed.ensures c.rows_after-front.ensures c.rows_after-back.ensures
