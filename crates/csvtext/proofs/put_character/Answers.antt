use native.Mathlib.Omega.{arith}
use mathlib.Core.Path.{sym}
use Rattle.text.proofs.Chain.{wrote_as}
use Rattle.csvlaws.proofs.Utf8Laws.{one_byte, two_bytes, three-bytes, four_bytes}
use Rattle.csvtext.proofs.put_character.Goals as goal

pub returns-then-c-lt128 : goal.returns-then-c-lt128
returns-then-c-lt128 c = wrote_as c.put_byte.ensures (sym (one_byte _ (omega arith)))

pub returns-then-c-lt2048 : goal.returns-then-c-lt2048
returns-then-c-lt2048 c = wrote_as c.put_bytes.ensures (sym (two_bytes _ (omega arith) (omega arith)))

pub returns-then-c-lt65536 : goal.returns-then-c-lt65536
returns-then-c-lt65536 c = wrote_as c.put_bytes-then-c-lt65536.ensures (sym (three-bytes _ (omega arith) (omega arith)))

pub returns : goal.returns
returns c = wrote_as c.put_bytes-2.ensures (sym (four_bytes _ (omega arith)))
