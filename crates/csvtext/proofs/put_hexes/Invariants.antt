use Rattle.std.proofs.Common.{take}
use Rattle.rules.specs.Csv.{hex_text}
use Rattle.text.specs.Writer.{Wrote}
use Rattle.csvtext.proofs.put_hexes.Given as goal

abbrev pub invariant-loop-b : goal.invariant-loop-b
invariant-loop-b l = Wrote l.initial.out l.at (hex_text (take l.b-index l.bytes)) l.out l.p
