-- Room for an input's rows and its listing.
use Rattle.std.specs.Prelude.{ℕ, ◌≤◌, ◌≡◌, List, length}
use Rattle.pairlines.specs.Pairs.{info_room, control_room, property_room, longest_input, pair_listed}
use Rattle.pairlines.specs.Told.{listed_in_lem, most_in}

pub record Roomy (input infos controls properties out : List ℕ) : Type 0 where
  pub short : length input ≤ longest_input
  -- as with room for 524,284 rows of TypeInfo, 16,384 controls and 262,144 properties
  pub same : listed_in_lem input infos controls properties ≡ pair_listed input info_room control_room property_room
  pub for_lines : most_in controls ≤ length out
