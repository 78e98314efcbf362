-- The listing by what was read of the input.
use Rattle.std.specs.Prelude.{ℕ, Bool, cond, List}
use Rattle.rules.specs.Answer.{refusal, too_long_lem}
use Rattle.rules.specs.Listing.{answer_line, listing}

-- of what was read, and whether bytes came after it: "More input: `answer 5 0 0 0`"
unfoldable pub listed : List ℕ → Bool → List ℕ
listed read more = cond more (answer_line (refusal too_long_lem)) (listing read)
