use Rattle.rules.specs.Rows.{property_width, row_at}
use Rattle.listing.proofs.Rows.{property-wrote}
use Rattle.listing.proofs.property_line.Goals as goal

pub returns : goal.returns
returns c =
    property-wrote c.args.n (row_at property_width c.args.n c.args.rows.now) c.args.stream.now
    c.get_property-row.ensures
    c.put_head-p.ensures
    c.put_value_name-p.ensures
    c.put_byte-p.ensures
    c.put_shown-p.ensures
    c.put_end.ensures
