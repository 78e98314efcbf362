use Rattle.std.proofs.Common.{sym, ◌∙◌}
use Rattle.text.proofs.Chain.{wrote_as}
use Rattle.showlines.proofs.LineLaws.{key-unmapped, key-mapped}
use Rattle.showlines.proofs.put_key.Goals as goal

pub returns-then-is_unmapped : goal.returns-then-is_unmapped
returns-then-is_unmapped c =
    let a = c.args in
    wrote_as c.put_unmapped.ensures (sym (key-unmapped a.scope a.mark a.id (sym c.is_unmapped.ensures ∙ c.if-is_unmapped.true)))

pub returns : goal.returns
returns c =
    let a = c.args in
    wrote_as c.put_property.ensures (sym (key-mapped a.scope a.mark a.id (sym c.is_unmapped.ensures ∙ c.if-is_unmapped.false)))
