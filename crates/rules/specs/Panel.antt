-- Wish 11 of document 02: panel rules. "Our new panels accept only a subset of forms. Add a checker over an accepted reading with these rules"
use Rattle.std.specs.Prelude.{ℕ, ◌+◌, Bool, true, false, not, cond, ◌&&◌, ◌||◌, List, [], ◌∷◌, ltb, leb, eqb}
use Rattle.std.proofs.Math.Option.{Option, none, some}
use Rattle.rules.specs.Lists.{all, keep, same, text}
use Rattle.rules.specs.Bytes.{part}
use Rattle.rules.specs.Answer.{answer}
use Rattle.rules.specs.Texts.{label}
use Rattle.rules.specs.NameTables.{control_type_names}
use Rattle.rules.specs.Names.{name_in_lem}
use Rattle.rules.specs.Rows.{control_width, property_width, room, written}
use Rattle.rules.specs.Reading.{Control, Reading}
use Rattle.rules.specs.Blob.{Outcome, refused, read, outcome, controls_shown, properties_shown, Exit}
use Rattle.rules.specs.declared.Answer.{Answer}
use Rattle.rules.specs.declared.Property.{Property}
use Rattle.rules.specs.declared.Name.{Name}
use Rattle.rules.specs.declared.Name.TheVariants.{Text, Numbered, Loose}

-- ---- 1. "every type code has a type name"
abbrev pub type_name : ℕ → List ℕ
type_name type = name_in_lem control_type_names type

unfoldable pub has_type_name : ℕ → Bool
has_type_name type = not (same (type_name type) [])

-- ---- 2. "names with mark 0 only"
unfoldable pub is_text_name : Name → Bool
is_text_name (Text start size) = true
is_text_name Numbered = false
is_text_name (Loose start size) = false

-- ---- 3. "no name equal, byte for byte, to an earlier row's"
-- the name of row n
unfoldable pub name_bytes : List ℕ → ℕ → Name → List ℕ
name_bytes s n (Text start size) = part s start size
name_bytes s n Numbered = label n
name_bytes s n (Loose start size) = part s start size

unfoldable pub is_new_name : List (List ℕ) → List ℕ → Bool
is_new_name earlier name = all (λ e. not (same e name)) earlier

-- ---- 4. "each TextBox or ComboBox has exactly one property 0x001B, and that is Text (mark 6) of at least one byte"
unfoldable pub is_box : ℕ → Bool
is_box type = same (type_name type) (text "TextBox") || same (type_name type) (text "ComboBox")

abbrev pub source_id : ℕ
source_id = 0x001B

abbrev pub is_source : Property → Bool
is_source p = eqb p.id source_id

unfoldable pub is_one_text : List Property → Bool
is_one_text [] = false
is_one_text (p ∷ []) = eqb p.value.mark 6 && leb 1 p.size
is_one_text (p ∷ q ∷ ps) = false

unfoldable pub is_filled : ℕ → List Property → Bool
is_filled type ps = not (is_box type) || is_one_text (keep is_source ps)

-- ---- 5. "every property of a control with the id of Left, Top, Width or Height is Short and those of Width and Height are not negative". It goes by the
-- id, whatever the mark; the worked examples hold these ids against the table of names
abbrev pub left_id : ℕ
left_id = 0x0036

abbrev pub top_id : ℕ
top_id = 0x008D

abbrev pub width_id : ℕ
width_id = 0x0096

abbrev pub height_id : ℕ
height_id = 0x002C

abbrev pub is_extent : ℕ → Bool
is_extent id = eqb id width_id || eqb id height_id

abbrev pub is_measure : ℕ → Bool
is_measure id = eqb id left_id || (eqb id top_id || is_extent id)

-- Short is mark 2; a number below 0 has 0x80000000 or more in low
unfoldable pub is_placing : Property → Bool
is_placing p = (not (is_measure p.id) || eqb p.value.mark 2) && (not (is_extent p.id) || ltb p.value.low 0x80000000)

unfoldable pub is_placed : List Property → Bool
is_placed ps = all is_placing ps

-- ---- 6. "level at most 7"
abbrev pub is_shallow : ℕ → Bool
is_shallow level = leb level 7

-- ---- "the first control row that breaks one with the first rule broken in this order"
-- which rules row n keeps, after rows with the earlier names
unfoldable pub kept : List ℕ → ℕ → List (List ℕ) → Control → List Bool
kept s n earlier c =
    has_type_name c.type
    ∷ is_text_name c.name
    ∷ is_new_name earlier (name_bytes s n c.name)
    ∷ is_filled c.type c.properties
    ∷ is_placed c.properties
    ∷ is_shallow c.level
    ∷ []

-- the number of the first that isn't kept, where the first of these has the number n
unfoldable pub first_broken : ℕ → List Bool → Option ℕ
first_broken n [] = none
first_broken n (b ∷ bs) = cond b (first_broken (n + 1) bs) (some n)

abbrev pub row_or : ℕ → Option ℕ → Option (ℕ × ℕ) → Option (ℕ × ℕ)
row_or n none later = later
row_or n (some rule) later = some (n, rule)

-- of the rows from n on, after those with the earlier names: the row and the rule
unfoldable pub broken_from : List ℕ → ℕ → List (List ℕ) → List Control → Option (ℕ × ℕ)
broken_from s n earlier [] = none
broken_from s n earlier (c ∷ cs) =
    row_or n (first_broken 1 (kept s n earlier c)) (broken_from s (n + 1) (name_bytes s n c.name ∷ earlier) cs)

unfoldable pub broken : List ℕ → List Control → Option (ℕ × ℕ)
broken s cs = broken_from s 0 [] cs

-- ---- the answer
-- "On 0 the counts are 1, 0, 0 for yes, else 0, the row, the rule (1 to 6)."
abbrev pub verdict : Option (ℕ × ℕ) → Answer
verdict none = answer 0 1 0 0
verdict (some (row, rule)) = answer 0 0 row rule

-- "Refusals: 5, 8, 4, 6, 7.": those of the reading
abbrev pub panel_answer : List ℕ → Outcome → Answer
panel_answer s (refused a) = a
panel_answer s (read r) = verdict (broken s r.controls)

-- "It reads only a reading made in the same call. It chooses as `formlist` does." The rows stay written, for yes and for no
unfoldable pub panel_exit : List ℕ → List ℕ → List ℕ → List ℕ → Exit
panel_exit t s controls properties =
    let o = outcome t s (room control_width controls) (room property_width properties) in
    record { answer = panel_answer s o; controls = written (controls_shown o) controls; properties = written (properties_shown o) properties }
