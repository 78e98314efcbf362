-- What a caller in C is handed for what the definitions say: the same numbers, in structs laid out as C's.
use Rattle.std.specs.Prelude.{ℕ, ◌+◌, cond, leb}
use Rattle.rules.specs.NamePart as name
use Rattle.rules.specs.declared.Answer as rules
use Rattle.rules.specs.declared.Value as rules-value
use Rattle.rules.specs.declared.Room as rules-room
use Rattle.oskuramos.specs.declared.Answer.{Answer}
use Rattle.oskuramos.specs.declared.Value.{Value}
use Rattle.oskuramos.specs.declared.Part.{Part}
use Rattle.oskuramos.specs.declared.Room.{Room}

abbrev pub handed_answer : rules.Answer → Answer
handed_answer a = record { number = a.number; first = a.first; second = a.second; third = a.third }

abbrev pub handed_value : rules-value.Value → Value
handed_value v = record { mark = v.mark; low = v.low; high = v.high }

abbrev pub handed_room : rules-room.Room → Room
handed_room r = record { controls = r.controls; properties = r.properties }

-- the same fields read back
abbrev pub taken_answer : Answer → rules.Answer
taken_answer a = record { number = a.number; first = a.first; second = a.second; third = a.third }

abbrev pub taken_value : Value → rules-value.Value
taken_value v = record { mark = v.mark; low = v.low; high = v.high }

abbrev pub taken_room : Room → rules-room.Room
taken_room r = record { controls = r.controls; properties = r.properties }

abbrev pub part : ℕ → ℕ → ℕ → Part
part source start length = record { source = source; start = start; length = length }

-- a part of the stream has source 0, one of the label 1
abbrev pub handed_part : name.Part → Part
handed_part (name.of_stream start length) = part 0 start length
handed_part (name.of_label start length) = part 1 start length

-- a part of a slice of so many bytes, or the empty part at the stream's start where the slice doesn't have it
unfoldable pub part_or : ℕ → ℕ → ℕ → ℕ → Part
part_or source size start length = cond (leb (start + length) size) (part source start length) (part 0 0 0)
