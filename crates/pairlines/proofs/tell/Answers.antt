-- One that found a row is passed over; the line of another.
use Rattle.std.proofs.Common.{refl, sym}
use Rattle.rules.specs.Pairing.{infos_in}
use Rattle.rows.specs.Put.{control_words}
use Rattle.pairlines.proofs.UnpairedLaws.{found-one, found_none}
use Rattle.pairlines.proofs.tell.Goals as goal

pub returns-then-not-is_unpaired : goal.returns-then-not-is_unpaired
returns-then-not-is_unpaired c =
    let a = c.args in found-one a.stream.now a.info.stream.now (infos_in a.info.count a.info.rows.now) a.n (control_words a.row) (sym c.if-not-is_unpaired.ensures)

pub returns : goal.returns
returns c =
    let a = c.args in
    found_none a.stream.now a.info.stream.now (infos_in a.info.count a.info.rows.now) a.n (control_words a.row) (sym c.if-not-is_unpaired.ensures)
    c.put_byte-p.ensures c.put_byte-p-2.ensures c.put_decimal-p.ensures c.put_byte-p-3.ensures c.put_shown_name-p.ensures c.put_end-at.ensures refl
