-- Room for a stream's rows and its listing.
use Rattle.std.specs.Prelude.{ℕ, ◌≤◌, List, length}
use Rattle.rules.specs.Rows.{type_info_width, room}
use Rattle.rules.specs.Room.{type_info_room_lem}
use Rattle.infolines.specs.Infos.{longest_info, info_most}

pub record Roomy (stream rows out : List ℕ) : Type 0 where
  pub short : length stream ≤ longest_info
  pub for_rows : type_info_room_lem (length stream) ≤ room type_info_width rows
  pub for_lines : info_most (length stream) ≤ length out
