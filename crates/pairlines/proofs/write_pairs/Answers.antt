-- The parts of the input, and the listing of both streams.
use Rattle.pairlines.proofs.Paired.{input_written}
use Rattle.pairlines.proofs.write_pairs.Goals as goal

pub returns : goal.returns
returns c =
    let a = c.args in
    input_written a.input.now a.infos.now a.controls.now a.properties.now c.u32_at-layout.ensures c.u32_at-size.ensures c.value_bytes-info_stream.ensures c.behind-stream.ensures c.pair_lines.ensures
