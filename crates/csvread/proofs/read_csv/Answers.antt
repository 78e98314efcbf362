use native.Mathlib.Omega.{arith}
use mathlib.Core.Path.{refl, sym, ◌∙◌}
use mathlib.Core.Logic.{inl, inr}
use lib.ListN.{length}
use Rattle.rules.specs.Rows.{field_width, room}
use Rattle.rules.specs.Csv.{read_from}
use Rattle.rules.specs.declared.Mode.TheVariants.{Start}
use Rattle.csvlaws.proofs.CsvLaws.{countable-most}
use Rattle.csvread.proofs.Exits.{empty-none, fields_read, uncounted, is-counted, none-exit, full_exit, read-exit, shown}
use Rattle.csvread.proofs.read_csv.Goals as goal

pub returns-then-text-eq0 : goal.returns-then-text-eq0
returns-then-text-eq0 c =
    let s = shown (none-exit _ _ _ (empty-none _ c.if-text-eq0.true)) c.refused.ensures refl refl in
    record { value = s.0; fields_after = s.1.0; out_after = s.1.1 }

pub returns-in_default : goal.returns-in_default
returns-in_default c =
    let e = uncounted _ (sym c.count.ensures ∙ c.in_default.is) in
    let s = shown (none-exit _ _ _ (fields_read _ c.if-text-eq0.false ∙ e)) c.refused-in_default.ensures refl refl in
    record { value = s.0; fields_after = s.1.0; out_after = s.1.1 }

pub returns-then-countable-bytes : goal.returns-then-countable-bytes
returns-then-countable-bytes c =
    let l = rw c.countable.ensures at c.if-countable-bytes.true in
    let e = is-counted (read_from Start 0 c.args.text.now) _ _ (sym c.count.ensures ∙ c.in-Some.is) in
    let s = shown (full_exit _ _ _ _ _ (fields_read _ c.if-text-eq0.false) e (inl l)) c.refused-then-countable-bytes.ensures refl refl in
    record { value = s.0; fields_after = s.1.0; out_after = s.1.1 }

pub returns-then-countable-n : goal.returns-then-countable-n
returns-then-countable-n c =
    let l = rw c.countable-2.ensures at c.if-countable-n.true in
    let e = is-counted (read_from Start 0 c.args.text.now) _ _ (sym c.count.ensures ∙ c.in-Some.is) in
    let s = shown (full_exit _ _ _ _ _ (fields_read _ c.if-text-eq0.false) e (inr l)) c.refused-then-countable-n.ensures refl refl in
    record { value = s.0; fields_after = s.1.0; out_after = s.1.1 }

pub write-requires : goal.write-requires
write-requires c =
    record {
      bytes = _;
      is = is-counted (read_from Start 0 c.args.text.now) _ _ (sym c.count.ensures ∙ c.in-Some.is);
      bytes_fit = rw c.countable.ensures at c.if-countable-bytes.false;
      fields_fit = rw c.countable-2.ensures at c.if-countable-n.false;
    }

pub overflow_cast-result : goal.overflow_cast-result
overflow_cast-result c =
    let f = rw c.countable.ensures at c.if-countable-bytes.false in
    record { fits = omega (arith, f, countable-most (length c.args.out.now)) }

pub overflow_cast-result-2 : goal.overflow_cast-result-2
overflow_cast-result-2 c =
    let f = rw c.countable-2.ensures at c.if-countable-n.false in
    record { fits = omega (arith, f, countable-most (room field_width c.args.fields.now)) }

pub returns : goal.returns
returns c =
    let e = is-counted (read_from Start 0 c.args.text.now) _ _ (sym c.count.ensures ∙ c.in-Some.is) in
    let b = rw c.countable.ensures at c.if-countable-bytes.false in
    let f = rw c.countable-2.ensures at c.if-countable-n.false in
    let s = shown (read-exit _ _ _ _ _ (fields_read _ c.if-text-eq0.false) e b f) refl c.write.ensures.rows_after c.write.ensures.out_after in
    record { value = s.0; fields_after = s.1.0; out_after = s.1.1 }
