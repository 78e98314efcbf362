-- The type by the mark of the name.
use native.Mathlib.Omega.{arith}
use Rattle.std.proofs.Common.{◌≡◌, ◌%◌}
use Rattle.rules.specs.Pairing.{infos_in}
use Rattle.pairing.proofs.TypeLaws.{inside-unless, mark-known, by-label, by_bytes, by_odd, by_units}
use Rattle.pairing.proofs.paired_type.Goals as goal

pub returns-then-row-eq-NAME_NUMBERED : goal.returns-then-row-eq-NAME_NUMBERED
returns-then-row-eq-NAME_NUMBERED c = by-label c.args.s.now c.args.t.now (infos_in c.args.info_count c.args.infos.now) c.args.row _ (omega arith) c.type_of_label.ensures

pub returns-then-row-eq-NAME_LOOSE : goal.returns-then-row-eq-NAME_LOOSE
returns-then-row-eq-NAME_LOOSE c =
    by_bytes c.args.s.now c.args.t.now (infos_in c.args.info_count c.args.infos.now) c.args.row _ (omega arith)
    (inside-unless c.args.s.now c.args.row c.requires.row_value (λ (e : c.args.row.mark ≡ 1). omega arith)) c.type_of_name.ensures

pub returns-then-size-eq1 : goal.returns-then-size-eq1
returns-then-size-eq1 c =
    by_odd c.args.s.now c.args.t.now (infos_in c.args.info_count c.args.infos.now) c.args.row (omega (arith, mark-known c.args.s.now c.args.row c.requires.row_value))
    (inside-unless c.args.s.now c.args.row c.requires.row_value (λ (e : c.args.row.mark ≡ 1). omega arith)) (omega arith)

pub returns : goal.returns
returns c =
    by_units c.args.s.now c.args.t.now (infos_in c.args.info_count c.args.infos.now) c.args.row _ (omega (arith, mark-known c.args.s.now c.args.row c.requires.row_value))
    (inside-unless c.args.s.now c.args.row c.requires.row_value (λ (e : c.args.row.mark ≡ 1). omega arith)) (λ (e : c.args.row.size % 2 ≡ 1). omega arith) c.type_of_name-2.ensures
