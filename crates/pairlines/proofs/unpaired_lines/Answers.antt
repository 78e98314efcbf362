-- A row that was judged is told.
use native.Mathlib.Omega.{arith}
use Rattle.std.proofs.Common.{◌∙◌, refl}
use Rattle.rules.specs.Rows.{control_width}
use Rattle.rules.specs.Pairing.{control_ok}
use Rattle.rules.proofs.PairingLaws.{fair}
use Rattle.pairing.proofs.RowLaws.{each_row, control-ok}
use Rattle.pairlines.proofs.UnpairedLaws.{telling_none, telling_more, telling_all}
use Rattle.pairlines.proofs.unpaired_lines.Goals as goal

pub loop-n-init : goal.loop-n-init
loop-n-init c = telling_none refl refl

pub tell-told-requires : goal.tell-told-requires
tell-told-requires c =
    let a = c.args in
    let judged = fair a.stream.now a.controls.now a.control_count a.info.stream.now a.info.rows.now a.info.count c.requires in
    let ok = each_row (control_ok a.stream.now) control_width a.control_count a.controls.now judged.controls-ok c.loop-n.n c.loop-n-test.true in
    record {
      row_value = control-ok c.get_control-row.ensures a.stream.now ∙ ok;
      infos_value = judged.infos-ok;
      count_bound = omega (arith, c.loop-n.invariant.within, c.loop-n-test.true);
    }

pub loop-n-preserved : goal.loop-n-preserved
loop-n-preserved c = telling_more c.loop-n.invariant c.loop-n-test.true c.get_control-row.ensures c.tell-told.ensures

pub returns : goal.returns
returns c = telling_all c.loop-n.invariant c.loop-n-test.false c.count_line.ensures
