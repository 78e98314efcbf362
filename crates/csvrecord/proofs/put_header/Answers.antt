use mathlib.Core.Path.{sym}
use Rattle.text.proofs.Chain.{wrote_as}
use Rattle.csvrecord.proofs.RecordLaws.{header-text}
use Rattle.csvrecord.proofs.put_header.Goals as goal

pub returns : goal.returns
returns c =
    wrote_as c.put_text.ensures (sym header-text)
