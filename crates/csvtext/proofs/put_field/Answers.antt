use mathlib.Core.Path.{sym, ◌∙◌}
use Rattle.rules.specs.Utf8.{utf8}
use Rattle.text.proofs.Chain.{◌⨟◌, wrote_as}
use Rattle.csvtext.proofs.UnitLaws.{field_plain, field-quoted}
use Rattle.csvtext.proofs.put_field.Goals as goal

pub returns-then-is_plain : goal.returns-then-is_plain
returns-then-is_plain c =
    wrote_as c.put_doubled.ensures (sym (field_plain (utf8 c.args.bytes.now) (sym c.is_plain.ensures ∙ c.if-is_plain.true)))

pub returns : goal.returns
returns c =
    wrote_as (c.put_byte-p.ensures ⨟ c.put_doubled-p.ensures ⨟ c.put_byte.ensures)
    (sym (field-quoted (utf8 c.args.bytes.now) (sym c.is_plain.ensures ∙ c.if-is_plain.false)))
