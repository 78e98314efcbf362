use native.Mathlib.Omega.{arith}
use mathlib.Core.Path.{ap}
use mathlib.Core.List.{List}
use Prim.Native.Nat.{ℕ}
use lib.ListN.{length}
use Rattle.rules.specs.Bytes.{part}
use Rattle.rules.specs.Utf8.{utf8}
use Rattle.rules.specs.Csv.{field_text, hex_text}
use Rattle.csvrecord.proofs.RecordLaws.{field-text, field_column, field-hexes}
use Rattle.csvrecord.proofs.value_left.Goals as goal

pub returns-then-v-eq-MARK_TEXT : goal.returns-then-v-eq-MARK_TEXT
returns-then-v-eq-MARK_TEXT c =
    let a = c.args in
    omega (arith, c.field_left.ensures, ap (λ (l : List ℕ). length (field_text (utf8 l))) c.value_bytes.ensures, ap length (field-text a.stream.now a.p (omega arith)))

pub returns-then-v-lt-MARK_TEXT : goal.returns-then-v-lt-MARK_TEXT
returns-then-v-lt-MARK_TEXT c =
    let a = c.args in
    omega (arith, c.saturating_sub.ensures, c.column_size.ensures a.p.value.high a.p.size (part a.stream.now a.p.start a.p.size), ap length (field_column a.stream.now a.p (omega arith)))

pub returns : goal.returns
returns c =
    let a = c.args in
    omega (arith, c.hexes_left.ensures, ap (λ (l : List ℕ). length (hex_text l)) c.value_bytes-2.ensures, ap length (field-hexes a.stream.now a.p (omega arith)))
