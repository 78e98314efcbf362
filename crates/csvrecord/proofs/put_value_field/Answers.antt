use native.Mathlib.Omega.{arith}
use mathlib.Core.Path.{sym, ap, ◌∙◌}
use mathlib.Core.List.{List}
use Prim.Native.Nat.{ℕ}
use Rattle.rules.specs.Utf8.{utf8}
use Rattle.rules.specs.Csv.{field_text, hex_text}
use Rattle.text.proofs.Chain.{wrote_as}
use Rattle.csvrecord.proofs.RecordLaws.{field-text, field_column, field-hexes}
use Rattle.csvrecord.proofs.put_value_field.Goals as goal

pub returns-then-v-eq-MARK_TEXT : goal.returns-then-v-eq-MARK_TEXT
returns-then-v-eq-MARK_TEXT c =
    let a = c.args in
    wrote_as c.put_field.ensures
    (ap (λ (l : List ℕ). field_text (utf8 l)) c.value_bytes.ensures ∙ sym (field-text a.stream.now a.p (omega arith)))

pub returns-then-v-lt-MARK_TEXT : goal.returns-then-v-lt-MARK_TEXT
returns-then-v-lt-MARK_TEXT c =
    let a = c.args in
    wrote_as c.put_value.ensures (sym (field_column a.stream.now a.p (omega arith)))

pub returns : goal.returns
returns c =
    let a = c.args in
    wrote_as c.put_hexes.ensures
    (ap hex_text c.value_bytes-2.ensures ∙ sym (field-hexes a.stream.now a.p (omega arith)))
