-- Room for an input's rows and its listing.
use Rattle.std.specs.Prelude.{ℕ, ◌≤◌, ◌≡◌, List, length}
use Rattle.bloblines.specs.Blobs.{control_room, property_room, blob_listed, longest_input, listed_in_lem, most_in}

pub record Roomy (input controls properties out : List ℕ) : Type 0 where
  pub short : length input ≤ longest_input
  -- as with room for 16,384 controls and 262,144 properties
  pub same : listed_in_lem input controls properties ≡ blob_listed input control_room property_room
  pub for_lines : most_in controls properties ≤ length out
