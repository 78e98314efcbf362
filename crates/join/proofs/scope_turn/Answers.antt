use mathlib.Core.Path.{sym, ◌∙◌}
use Rattle.join.proofs.Turns.{alone-more, both}
use Rattle.join.proofs.ScopeLaws.{scope-left, first-scope, second-scope, both_scopes}
use Rattle.join.proofs.scope_turn.Goals as goal

pub take-front-requires : goal.take-front-requires
take-front-requires c =
    scope-left c.requires.walks.one_walk c.key_at-x.ensures (alone-more _ _ _ _ (sym c.alone.ensures ∙ c.if-alone.true))

pub returns-then-alone : goal.returns-then-alone
returns-then-alone c =
    first-scope c.requires.walks c.key_at-x.ensures c.key_at-y.ensures (sym c.alone.ensures ∙ c.if-alone.true) c.take-front.ensures c.stay-back.ensures

pub take-back-requires : goal.take-back-requires
take-back-requires c =
    scope-left c.requires.walks.other_walk c.key_at-y.ensures (alone-more _ _ _ _ (sym c.alone-2.ensures ∙ c.if-alone-2.true))

pub returns-then-alone-2 : goal.returns-then-alone-2
returns-then-alone-2 c =
    second-scope c.requires.walks c.key_at-x.ensures c.key_at-y.ensures (sym c.alone-2.ensures ∙ c.if-alone-2.true) c.stay-front.ensures c.take-back.ensures

-- ---- past both tests
pub take-front-requires-2 : goal.take-front-requires-2
take-front-requires-2 c =
    scope-left c.requires.walks.one_walk c.key_at-x.ensures (both _ _ _ _ c.requires.more (sym c.alone.ensures ∙ c.if-alone.false) (sym c.alone-2.ensures ∙ c.if-alone-2.false)).first

pub take-back-requires-2 : goal.take-back-requires-2
take-back-requires-2 c =
    scope-left c.requires.walks.other_walk c.key_at-y.ensures (both _ _ _ _ c.requires.more (sym c.alone.ensures ∙ c.if-alone.false) (sym c.alone-2.ensures ∙ c.if-alone-2.false)).second

pub returns : goal.returns
returns c =
    both_scopes c.requires.walks c.key_at-x.ensures c.key_at-y.ensures (both _ _ _ _ c.requires.more (sym c.alone.ensures ∙ c.if-alone.false) (sym c.alone-2.ensures ∙ c.if-alone-2.false)) c.take-front-2.ensures c.take-back-2.ensures
