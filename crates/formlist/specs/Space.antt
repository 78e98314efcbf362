-- Room for an input and its listing.
use Rattle.std.specs.Prelude.{ℕ, ◌≤◌, ◌≡◌, List, length}
use Rattle.listing.specs.Bound.{longest_listing}

pub record Roomy (space out : List ℕ) : Type 0 where
  -- "More input: `answer 5 0 0 0`"
  pub for_input : length space ≡ 32768
  pub for_lines : longest_listing ≤ length out
