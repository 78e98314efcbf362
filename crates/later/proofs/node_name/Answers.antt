use Rattle.std.proofs.Common.{sym, ◌∙◌}
use Rattle.later.proofs.NameLaws.{name-none, name-found, name-on}
use Rattle.later.proofs.node_name.Goals as goal

pub returns-then-get_id-eq-NAME_ID : goal.returns-then-get_id-eq-NAME_ID
returns-then-get_id-eq-NAME_ID c = c.name_by.ensures ∙ name-found _ _ _ c.loop-i-test.true (sym c.get_id.ensures ∙ c.if-get_id-eq-NAME_ID.true) c.get_property.ensures ∙ c.loop-i.invariant

pub loop-i-preserved : goal.loop-i-preserved
loop-i-preserved c = name-on _ _ _ c.loop-i-test.true (λ e. c.if-get_id-eq-NAME_ID.false (c.get_id.ensures ∙ e)) ∙ c.loop-i.invariant

pub returns : goal.returns
returns c = name-none _ _ _ c.loop-i-test.false ∙ c.loop-i.invariant
