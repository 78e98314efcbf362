-- What the code answers for what the definitions say.
use Rattle.std.specs.Prelude.{ℕ, ◌+◌, cond, List, [], leb, length}
use Rattle.rules.specs.Bytes.{part}
use Rattle.rules.specs.Blob.{Exit}
use Rattle.rules.specs.NamePart.{Part, of_stream, of_label}
use Rattle.rules.specs.declared.Answer.{Answer}

-- all that a caller sees of a call: its result, and the two lent slices at exit
abbrev pub exited : Answer → List ℕ → List ℕ → Exit
exited a controls properties = record { answer = a; controls = controls; properties = properties }

-- a part, or nothing where the slice doesn't have it
unfoldable pub part_or : List ℕ → ℕ → ℕ → List ℕ
part_or s start size = cond (leb (start + size) (length s)) (part s start size) []

-- a place in memory: a block, and an offset in it
abbrev pub Place : Type 0
Place = ℕ × ℕ

-- so many bytes after a place
abbrev pub behind : Place → ℕ → Place
behind p n = (p.0, p.1 + n)

-- where that part starts; where the slice doesn't have it, where the other one does
unfoldable pub place_or : List ℕ → Place → ℕ → ℕ → Place → Place
place_or s at start size other = cond (leb (start + size) (length s)) (behind at start) other

-- where a part starts, by where the stream and the label buffer do
abbrev pub part_place : Place → Place → Part → Place
part_place stream label (of_stream start size) = behind stream start
part_place stream label (of_label start size) = behind label start
