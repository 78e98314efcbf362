use Rattle.rules.specs.Rows.{type_info_width, row_at}
use Rattle.listing.proofs.InfoRow.{info_wrote}
use Rattle.listing.proofs.info_line.Goals as goal

pub returns : goal.returns
returns c =
    info_wrote c.args.stream.now c.args.n (row_at type_info_width c.args.n c.args.rows.now)
    c.get_info-row.ensures
    c.value_bytes-name.ensures
    c.put_head-p.ensures
    c.put_type_name-p.ensures
    c.put_byte-p.ensures
    c.put_decimal-p.ensures
    c.put_byte-p-2.ensures
    c.put_size-p.ensures
    c.put_byte-p-3.ensures
    c.put_name-p.ensures
    c.put_end.ensures
