-- The entry's row where it is reported, and nothing where it isn't.
use native.Mathlib.Omega.{arith}
use mathlib.Core.Path.{◌∙◌}
use Rattle.typeinfo.proofs.EntryLaws.{not_one, one, put-nothing, put-row}
use Rattle.typeinfo.proofs.put_reported.Goals as goal

pub returns-then-e-eq-UNREPORTED : goal.returns-then-e-eq-UNREPORTED
returns-then-e-eq-UNREPORTED c = record {
  value = omega (arith, not_one c.args.e.type_code (omega arith));
  rows_after = put-nothing _ _ c.args.e (omega arith);
}

pub put_info-requires : goal.put_info-requires
put_info-requires c = omega (arith, one c.args.e.type_code c.if-e-eq-UNREPORTED.false)

pub returns : goal.returns
returns c = record {
  value = omega (arith, one c.args.e.type_code c.if-e-eq-UNREPORTED.false);
  rows_after = c.put_info.ensures ∙ put-row _ _ _ c.if-e-eq-UNREPORTED.false;
}
