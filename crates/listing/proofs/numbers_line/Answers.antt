use Rattle.listing.proofs.Rows.{numbers_wrote}
use Rattle.listing.proofs.numbers_line.Goals as goal

pub returns : goal.returns
returns c =
    numbers_wrote c.args.word.now c.args.a c.args.b c.args.c c.args.d
    c.put_text-p.ensures
    c.put_byte-p.ensures
    c.put_decimal-p.ensures
    c.put_byte-p-2.ensures
    c.put_decimal-p-2.ensures
    c.put_byte-p-3.ensures
    c.put_decimal-p-3.ensures
    c.put_byte-p-4.ensures
    c.put_decimal-p-4.ensures
    c.put_end.ensures
