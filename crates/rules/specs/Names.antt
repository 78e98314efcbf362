-- Names by id.
use Rattle.std.specs.Prelude.{ℕ, Bool, cond, ◌||◌, List, [], leb, eqb}
use Rattle.std.proofs.Math.Option.{Option, none, some}
use Prim.Native.String.{String}
use Rattle.rules.specs.Lists.{find, text}
use Rattle.rules.specs.Texts.{TextExit, text_exit}
use Rattle.rules.specs.NameTables.{Table, text_names, number_names, bytes_names}

abbrev pub has_id : ℕ → ℕ × String → Bool
has_id id row = eqb row.0 id

abbrev pub name_text : Option (ℕ × String) → List ℕ
name_text none = []
name_text (some row) = text row.1

-- the name that a table has for an id, or nothing
unfoldable pub name_in_lem : Table → ℕ → List ℕ
name_in_lem table id = name_text (find (has_id id) table)

-- "Every name handed out stays the same." It is written as any text; what has no name has no bytes
unfoldable pub name_exit : Table → ℕ → List ℕ → TextExit
name_exit table id out = text_exit (name_in_lem table id) out

-- "Number marks 0 to 4 use NUMBER_NAMES, 6 and 8 TEXT_NAMES, 5 and 7 BYTES_NAMES." No other mark has names
unfoldable pub names_for : ℕ → Table
names_for mark =
    cond (leb mark 4) number_names
    (cond (eqb mark 6 || eqb mark 8) text_names
    (cond (eqb mark 5 || eqb mark 7) bytes_names
    []))
