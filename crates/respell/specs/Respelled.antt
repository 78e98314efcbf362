-- What is printed for a stream: the line of the answer, and after it the rewritten stream.
use Rattle.std.specs.Prelude.{ℕ, List, ◌++◌, length, take, replicate}
use Rattle.rules.specs.Texts.{TextExit}
use Rattle.rules.specs.Rewrite.{rewrite_exit}
use Rattle.rules.specs.Listing.{answer_line}

-- the answer, and as many bytes as it says were written: none where it is a refusal
unfoldable pub printed : TextExit → List ℕ
printed e = answer_line e.answer ++ take e.answer.first e.out

-- the buffer is as long as the stream, so 9 is never answered
unfoldable pub respelled : List ℕ → List ℕ
respelled stream = printed (rewrite_exit stream (replicate (length stream) 0))
