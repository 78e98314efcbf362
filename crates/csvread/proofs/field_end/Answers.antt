use Rattle.csvread.proofs.ByteLaws.{comma-next, comma-last, return_last, return_early, no_end}
use mathlib.Core.Path.{sym}
use Rattle.csvread.proofs.field_end.Goals as goal

pub returns-then-field-lt-LAST_FIELD : goal.returns-then-field-lt-LAST_FIELD
returns-then-field-lt-LAST_FIELD c = sym (comma-next _ _ c.if-b-eq-COMMA.true c.if-field-lt-LAST_FIELD.true)

pub returns-then-b-eq-COMMA : goal.returns-then-b-eq-COMMA
returns-then-b-eq-COMMA c = sym (comma-last _ _ c.if-b-eq-COMMA.true c.if-field-lt-LAST_FIELD.false)

pub returns-then-field-eq-LAST_FIELD : goal.returns-then-field-eq-LAST_FIELD
returns-then-field-eq-LAST_FIELD c = sym (return_last _ _ c.if-b-eq-CR.true c.if-field-eq-LAST_FIELD.true)

pub returns-then-b-eq-CR : goal.returns-then-b-eq-CR
returns-then-b-eq-CR c = sym (return_early _ _ c.if-b-eq-CR.true c.if-field-eq-LAST_FIELD.false)

pub returns : goal.returns
returns c = sym (no_end _ _ c.if-b-eq-COMMA.false c.if-b-eq-CR.false)
