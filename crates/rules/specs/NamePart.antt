-- The name of a control, as a part of the stream or of the label buffer.
use Rattle.std.specs.Prelude.{ℕ, ◌+◌, cond, ◌||◌, List, leb, eqb, length}
use Rattle.rules.specs.Bytes.{part}

-- a part of one of the two lent slices
pub data Part : Type 0 where
  of_stream : ℕ → ℕ → Part
  of_label : ℕ → ℕ → Part

-- "the empty part at the stream's start"
abbrev pub no_part : Part
no_part = of_stream 0 0

-- "a part of the stream or of the label buffer (its first bytes, for mark 1). A mark above 2, or a part outside the slice, gives the empty part at
-- the stream's start."
unfoldable pub name_part : List ℕ → List ℕ → ℕ → ℕ → ℕ → Part
name_part stream label mark start size =
    cond (eqb mark 0 || eqb mark 2) (cond (leb (start + size) (length stream)) (of_stream start size) no_part)
    (cond (eqb mark 1) (cond (leb size (length label)) (of_label 0 size) no_part)
    no_part)

-- the bytes of a part
abbrev pub part_bytes_lem : List ℕ → List ℕ → Part → List ℕ
part_bytes_lem stream label (of_stream start size) = part stream start size
part_bytes_lem stream label (of_label start size) = part label start size
