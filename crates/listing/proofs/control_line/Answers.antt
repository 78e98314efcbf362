use Rattle.rules.specs.Rows.{control_width, row_at}
use Rattle.listing.proofs.Rows.{control-wrote}
use Rattle.listing.proofs.control_line.Goals as goal

pub returns : goal.returns
returns c =
    control-wrote c.args.n (row_at control_width c.args.n c.args.rows.now) c.args.stream.now
    c.get_control-row.ensures
    c.put_head-p.ensures
    c.put_type_name-p.ensures
    c.put_byte-p.ensures
    c.put_name_size-p.ensures
    c.put_byte-p-2.ensures
    c.put_decimal-p.ensures
    c.put_byte-p-3.ensures
    c.put_decimal-p-2.ensures
    c.put_byte-p-4.ensures
    c.put_nesting-p.ensures
    c.put_end.ensures
