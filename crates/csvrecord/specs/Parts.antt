-- A property's record in its parts: the fields that tell its owner, and the others.
use Rattle.std.specs.Prelude.{ℕ, ◌≡◌, List, [], ◌∷◌, ◌++◌, length}
use Rattle.rules.specs.Bytes.{part}
use Rattle.rules.specs.Digits.{decimal, hex}
use Rattle.rules.specs.Names.{name_in_lem, names_for}
use Rattle.rules.specs.Listing.{word, mark_word, value_column}
use Rattle.rules.specs.Csv.{Record, comma, crlf, field_text, or_id, value_text, property_record}
use Rattle.csvrecord.specs.declared.Owner.{Owner}
use Rattle.csvrecord.specs.declared.Owner.TheVariants.{Object, Control}

-- "both empty for the object's"
abbrev pub control_field : Owner → List ℕ
control_field Object = []
control_field (Control n type) = decimal n

abbrev pub type_field : Owner → List ℕ
type_field Object = []
type_field (Control n type) = hex 4 type

abbrev pub owned_record : List ℕ → Owner → List ℕ → Record
owned_record stream owner row = property_record stream (control_field owner) (type_field owner) row

-- a comma after each of them
unfoldable pub owner_text : Owner → List ℕ
owner_text owner = control_field owner ++ (comma ∷ type_field owner ++ (comma ∷ []))

unfoldable pub value_field : List ℕ → List ℕ → List ℕ
value_field stream row = field_text (value_text (word row 1) (word row 2) (word row 3) (word row 5) (part stream (word row 4) (word row 5)))

-- the word of a value, between two commas
unfoldable pub marked_text : ℕ → List ℕ
marked_text mark = comma ∷ mark_word mark ++ (comma ∷ [])

unfoldable pub named_text : ℕ → ℕ → List ℕ
named_text mark id = or_id (name_in_lem (names_for mark) id) id ++ marked_text mark

unfoldable pub tail_text : List ℕ → List ℕ → List ℕ
tail_text stream row = named_text (word row 1) (word row 0) ++ (value_field stream row ++ crlf)

-- so long is a value of this mark as it is listed, whatever else there is of it
abbrev pub ColumnSize : ℕ → ℕ → ℕ → Type 0
ColumnSize mark low n = (high size : ℕ) (bytes : List ℕ) → n ≡ length (value_column mark low high size bytes)
