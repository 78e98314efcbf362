-- Worked examples: lines by hand.
use mathlib.Core.Path.{◌≡◌, refl}
use mathlib.Core.List.{[], ◌∷◌}
use Rattle.rules.specs.Lists.{concat, find, text}
use Rattle.rules.specs.Digits.{digit, decimal_by, decimal, hex, signed_decimal}
use Rattle.rules.specs.NameTables.{number_names, control_type_names}
use Rattle.rules.specs.Names.{name_in_lem, names_for}
use Rattle.rules.specs.CodeTable.{codes_at}
use Rattle.rules.specs.Bytes.{u16}
use Rattle.rules.specs.Texts.{label}
use Rattle.rules.specs.Scalars.{scalar, scalars_from, scalars}
use Rattle.rules.specs.Utf8.{utf8_of}
use Rattle.rules.specs.Value.{signed}
use Rattle.rules.specs.Csv.{or_id, hex_text}
use Rattle.rules.specs.Listing.{number32}
use Rattle.showtext.specs.Shown.{within, is_turning, is_hidden, written, spelled, letters, quoted, cut_mark, first_bytes, bytes_text, loose_text, value_by}
use Rattle.showlines.specs.declared.Reading.TheVariants.{Form, Report, Tree, Scan, TooShort}
use Rattle.showlines.specs.declared.Scope.TheVariants.{OfEntry}
use Rattle.showlines.specs.Lines.{reading_text, first_line, blanks, owner, object_scope, object_owner, header_mark, stored_type, control_scope, control_owner, scope_text, is_unmapped, unmapped_text, key_text, property_line, or_code, type_text, name_text, control_line}
use Rattle.showlines.specs.Rows.{one_if_unmapped, unmapped_from, unmapped_in}

first : first_line Form 9 43 2 ≡ text "Access 2000 form, 9 controls, 43 properties, 2 unmapped\n"
unfolding first_line reading_text decimal decimal_by digit
first = refl

first_short : first_line TooShort 0 0 0 ≡ text "too short, 0 controls, 0 properties, 0 unmapped\n"
unfolding first_line reading_text decimal decimal_by digit
first_short = refl

-- ---- properties: by name, by id, unmapped
by_name : property_line [] (object_owner Form) (0x008D ∷ 3 ∷ 120 ∷ 0 ∷ 0 ∷ 0 ∷ []) ≡ text "  Top = 120\n"
unfolding property_line object_scope blanks key_text is_unmapped or_id name_in_lem names_for number_names find value_by number32 signed signed_decimal decimal decimal_by digit
by_name = refl

by-id : property_line [] (object_owner Tree) (0x0FFF ∷ 1 ∷ 0 ∷ 0 ∷ 0 ∷ 0 ∷ []) ≡ text "  0FFF = set\n"
unfolding property_line object_scope blanks key_text is_unmapped or_id name_in_lem names_for number_names find value_by hex digit
by-id = refl

unmapped : property_line [] (object_owner Report) (0x802F ∷ 1 ∷ 0 ∷ 0 ∷ 0 ∷ 0 ∷ []) ≡ text "  !! unmapped code 2F of report = set\n"
unfolding property_line object_scope blanks key_text is_unmapped unmapped_text scope_text value_by hex digit
unmapped = refl

-- in the later layout an id with that mark is an id
later-id : property_line [] (object_owner Scan) (0x802F ∷ 1 ∷ 0 ∷ 0 ∷ 0 ∷ 0 ∷ []) ≡ text "  802F = set\n"
unfolding property_line object_scope blanks key_text is_unmapped or_id name_in_lem names_for number_names find value_by hex digit
later-id = refl

-- a header code of the table, 0x99: in a form its rows have the type 0x1899, and its scope is that of 0x99
header-scope : property_line [] (control_owner (0 ∷ 1 ∷ 0 ∷ 0 ∷ 0x99 ∷ 0 ∷ []) Form (0x1899 ∷ 1 ∷ 0 ∷ 9 ∷ 0 ∷ 1 ∷ 0 ∷ 0 ∷ [])) (0x8061 ∷ 2 ∷ 5 ∷ 0 ∷ 0 ∷ 0 ∷ [])
    ≡ text "    !! unmapped code 61 of entry 0099 = 5\n"
unfolding property_line control_scope stored_type header_mark codes_at u16 find blanks key_text is_unmapped unmapped_text scope_text value_by number32 signed signed_decimal decimal decimal_by hex digit
header-scope = refl

-- in a report 0x1899 isn't what that header code gives
other-scope : control_owner (0 ∷ 1 ∷ 0 ∷ 0 ∷ 0x99 ∷ 0 ∷ []) Report (0x1899 ∷ 1 ∷ 0 ∷ 9 ∷ 0 ∷ 1 ∷ 1 ∷ 0 ∷ []) ≡ owner (OfEntry 0x1899) 3
unfolding control_scope stored_type header_mark codes_at u16 find
other-scope = refl

-- two of three rows have the mark
marked-rows : unmapped_in Form (0x8001 ∷ 0 ∷ 0 ∷ 0 ∷ 0 ∷ 0 ∷ 0x7FFF ∷ 0 ∷ 0 ∷ 0 ∷ 0 ∷ 0 ∷ 0x8000 ∷ 0 ∷ 0 ∷ 0 ∷ 0 ∷ 0 ∷ []) 3 ≡ 2
unfolding unmapped_in unmapped_from one_if_unmapped
marked-rows = refl

-- ---- controls: by name, numbered, loose
by-type : control_line (0x41 ∷ 0 ∷ []) 1 (0x006D ∷ 0 ∷ 0 ∷ 2 ∷ 0 ∷ 0 ∷ 1 ∷ 0 ∷ []) ≡ text "    #1 TextBox \"A\"\n"
unfolding control_line blanks type_text or_code name_in_lem control_type_names find name_text quoted letters concat scalars scalars_from scalar spelled written is_hidden is_turning within utf8_of decimal decimal_by digit
by-type = refl

numbered : control_line [] 12 (0x0FFF ∷ 1 ∷ 12 ∷ 10 ∷ 0 ∷ 0 ∷ 0 ∷ 0 ∷ []) ≡ text "  #12 type 0FFF Control_12\n"
unfolding control_line blanks type_text or_code name_in_lem control_type_names find name_text label decimal decimal_by hex digit
numbered = refl

loose : control_line (0x41 ∷ []) 0 (0 ∷ 2 ∷ 0 ∷ 1 ∷ 0 ∷ 0 ∷ 0 ∷ 0 ∷ []) ≡ text "  #0 type 0000 loose 1 bytes 41\n"
unfolding control_line blanks type_text or_code name_in_lem control_type_names find name_text loose_text bytes_text first_bytes cut_mark hex_text decimal decimal_by hex digit
loose = refl
