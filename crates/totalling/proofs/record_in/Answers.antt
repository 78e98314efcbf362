use Rattle.totalling.proofs.Numbers.{record_is}
use Rattle.totalling.proofs.record_in.Goals as goal

pub returns : goal.returns
returns c =
    record_is c.args.input.now _ c.numbers_in.ensures c.numbers_in-2.ensures c.numbers_in-3.ensures c.u32_at.ensures c.u32_at-2.ensures
