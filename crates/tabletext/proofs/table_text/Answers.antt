use Rattle.text.proofs.Chain.{◌⨟◌}
use Rattle.tabletext.proofs.Lines.{table_lines}
use Rattle.tabletext.proofs.table_text.Goals as goal

pub returns : goal.returns
returns c =
    rw (table_lines c.args.table.now c.byte_number.ensures.is c.byte_number-headers.ensures.is c.u16_number-scopes.ensures.is)
    (c.put_text-p.ensures
    ⨟ c.put_hex-p.ensures
    ⨟ c.put_byte-p.ensures
    ⨟ c.put_headers-p.ensures
    ⨟ c.put_scopes.ensures)
