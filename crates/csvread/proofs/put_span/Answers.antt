use Rattle.rows.proofs.PutLaws.{put_stores}
use Rattle.csvread.proofs.put_span.Goals as goal

pub returns : goal.returns
returns c = put_stores _ _ _ _
