-- Worked examples of wish 11, by computation: each rule kept and broken, on both sides of what it allows; which row and rule is answered; whole calls.
use Prim.Native.Nat.{ℕ}
use mathlib.Core.Path.{◌≡◌, refl}
use mathlib.Core.Bool.{Bool, true, false}
use mathlib.Core.List.{List, [], ◌∷◌, ◌++◌, map}
use mathlib.Core.Option.{Option, none, some}
use lib.ListN.{replicate}
use Rattle.rules.specs.Lists.{text}
use Rattle.rules.specs.Answer.{answer, refusal}
use Rattle.rules.specs.Tree.{no_parent}
use Rattle.rules.specs.NameTables.{text_names, number_names}
use Rattle.rules.specs.Names.{name_in_lem}
use Rattle.rules.specs.Value.{value}
use Rattle.rules.specs.Reading.{Control}
use Rattle.rules.specs.Dump.{dump}
use Rattle.rules.specs.Examples.{old}
use Rattle.rules.specs.Panel.{has_type_name, is_box, source_id, left_id, top_id, width_id, height_id, is_filled, is_placed, broken, panel_exit}
use Rattle.rules.specs.declared.Answer.{Answer}
use Rattle.rules.specs.declared.Property.{Property}
use Rattle.rules.specs.declared.Name.{Name}
use Rattle.rules.specs.declared.Name.TheVariants.{Text, Numbered, Loose}
use Rattle.rules.proofs.OpenPanel.{panel_open}

abbrev property : ℕ → ℕ → ℕ → ℕ → Property
property id mark low size = record { id = id; value = value mark low 0; start = 0; size = size }

abbrev control : ℕ → Name → List Property → ℕ → Control
control type name ps level = record { type = type; name = name; properties = ps; level = level; parent = no_parent }

abbrev label' : Name → Control
label' name = control 0x64 name [] 0

-- ---- 1: the first and the last type that has a name, those beside them and one between, none of more than 16 bits; the six codes of boxes and no other
pub type-names : map has_type_name (0x0063 ∷ 0x0064 ∷ 0x0071 ∷ 0x247F ∷ 0x2480 ∷ 0x0000 ∷ 0x10064 ∷ []) ≡ false ∷ true ∷ false ∷ true ∷ false ∷ false ∷ false ∷ []
unfolding panel_open
type-names = refl

pub boxes :
    (map is_box (0x006D ∷ 0x126D ∷ 0x1B6D ∷ 0x006F ∷ 0x136F ∷ 0x1B6F ∷ []) ≡ true ∷ true ∷ true ∷ true ∷ true ∷ true ∷ [])
    × (map is_box (0x006E ∷ 0x0064 ∷ 0x136D ∷ 0x126F ∷ 0x0000 ∷ 0x1006D ∷ []) ≡ false ∷ false ∷ false ∷ false ∷ false ∷ false ∷ [])
unfolding panel_open
boxes = (refl, refl)

-- ---- 2 and 3, with the stream "ABAab"
abbrev asked : List Control → Option (ℕ × ℕ)
asked = broken (text "ABAab")

pub names :
    (asked (label' (Text 0 1) ∷ label' (Text 1 1) ∷ []) ≡ none)
    × (asked (label' (Text 0 1) ∷ label' Numbered ∷ []) ≡ some (1, 2))
    × (asked (label' (Loose 0 1) ∷ []) ≡ some (0, 2))
    × (asked (label' (Text 0 1) ∷ label' (Text 2 1) ∷ []) ≡ some (1, 3))  -- the same byte from another place
    × (asked (label' (Text 0 1) ∷ label' (Text 1 1) ∷ label' (Text 0 1) ∷ []) ≡ some (2, 3))  -- a row stands between
    × (asked (label' (Text 0 2) ∷ label' (Text 3 2) ∷ []) ≡ none)  -- "AB" and "ab": nothing is folded
    × (asked (label' (Text 0 1) ∷ label' (Text 0 2) ∷ []) ≡ none)  -- one begins the other
    × (asked (label' (Text 0 2) ∷ label' (Text 0 1) ∷ []) ≡ none)
    × (asked (label' (Text 0 0) ∷ label' (Text 3 0) ∷ []) ≡ some (1, 3))  -- two without a byte
unfolding panel_open
names = (refl, refl, refl, refl, refl, refl, refl, refl, refl)

-- ---- 4
-- a text box with these properties, and a label with them
abbrev filled : List Property → Bool × Bool
filled ps = (is_filled 0x6D ps, is_filled 0x64 ps)

pub sources :
    (filled [] ≡ (false, true))
    × (filled (property 0x1B 6 0 0 ∷ []) ≡ (false, true))  -- no byte
    × (filled (property 0x1B 6 0 1 ∷ []) ≡ (true, true))
    × (filled (property 0x1B 5 0 1 ∷ []) ≡ (false, true))  -- the marks beside Text, and text that isn't UTF-16
    × (filled (property 0x1B 7 0 1 ∷ []) ≡ (false, true))
    × (filled (property 0x1B 8 0 1 ∷ []) ≡ (false, true))
    × (filled (property 0x1A 6 0 1 ∷ property 0x1C 6 0 1 ∷ property 0x801B 6 0 1 ∷ []) ≡ (false, true))  -- other ids, the unmapped one too
    × (filled (property 0x1A 7 0 0 ∷ property 0x1B 6 0 2 ∷ property 0x801B 7 0 0 ∷ []) ≡ (true, true))
    × (filled (property 0x1B 6 0 2 ∷ property 0x14 6 0 2 ∷ property 0x1B 6 0 2 ∷ []) ≡ (false, true))  -- two
unfolding panel_open
sources = (refl, refl, refl, refl, refl, refl, refl, refl, refl)

pub source_name : name_in_lem text_names source_id ≡ text "ControlSource"
unfolding panel_open
source_name = refl

-- ---- 5
pub ids : (name_in_lem number_names left_id ≡ text "Left") × (name_in_lem number_names top_id ≡ text "Top") × (name_in_lem number_names width_id ≡ text "Width") × (name_in_lem number_names height_id ≡ text "Height")
unfolding panel_open
ids = (refl, refl, refl, refl)

-- Left, Top, Width and Height with this mark and low
abbrev four : ℕ → ℕ → List Bool
four mark low = map (λ id. is_placed (property id mark low 2 ∷ [])) (0x36 ∷ 0x8D ∷ 0x96 ∷ 0x2C ∷ [])

pub places :
    (is_placed [] ≡ true)
    × (four 2 0 ≡ true ∷ true ∷ true ∷ true ∷ [])
    × (four 2 0x7FFFFFFF ≡ true ∷ true ∷ true ∷ true ∷ [])
    × (four 2 0x80000000 ≡ true ∷ true ∷ false ∷ false ∷ [])  -- Left and Top may be negative
    × (four 2 0xFFFFFFFF ≡ true ∷ true ∷ false ∷ false ∷ [])
    × (four 1 0 ≡ false ∷ false ∷ false ∷ false ∷ [])
    × (four 3 0 ≡ false ∷ false ∷ false ∷ false ∷ [])
    × (four 6 0 ≡ false ∷ false ∷ false ∷ false ∷ [])  -- by the id, whatever the mark
    × (map (λ id. is_placed (property id 3 0x80000000 4 ∷ [])) (0x35 ∷ 0x37 ∷ 0x8C ∷ 0x8E ∷ 0x95 ∷ 0x97 ∷ 0x2B ∷ 0x2D ∷ 0x8036 ∷ []) ≡ replicate 9 true)  -- other ids
    × (is_placed (property 0x36 2 0 2 ∷ property 0x2C 3 0 4 ∷ []) ≡ false)  -- every property is judged
unfolding panel_open
places = (refl, refl, refl, refl, refl, refl, refl, refl, refl, refl)

-- ---- 6, and which row and rule is answered
pub levels : (asked (control 0x64 (Text 0 1) [] 7 ∷ []) ≡ none) × (asked (control 0x64 (Text 0 1) [] 8 ∷ []) ≡ some (0, 6))
unfolding panel_open
levels = (refl, refl)

pub firsts :
    (asked [] ≡ none)
    × (asked (control 0 Numbered (property 0x36 3 0 4 ∷ []) 8 ∷ []) ≡ some (0, 1))
    × (asked (control 0x6D Numbered (property 0x36 3 0 4 ∷ []) 8 ∷ []) ≡ some (0, 2))
    × (asked (label' (Text 0 1) ∷ control 0x6D (Text 2 1) (property 0x36 3 0 4 ∷ []) 8 ∷ []) ≡ some (1, 3))
    × (asked (control 0x6D (Text 0 1) (property 0x36 3 0 4 ∷ []) 8 ∷ []) ≡ some (0, 4))
    × (asked (control 0x64 (Text 0 1) (property 0x36 3 0 4 ∷ []) 8 ∷ []) ≡ some (0, 5))
    × (asked (control 0x64 (Text 0 1) [] 8 ∷ control 0 Numbered [] 0 ∷ []) ≡ some (0, 6))  -- the first row, though the next breaks rule 1
unfolding panel_open
firsts = (refl, refl, refl, refl, refl, refl, refl)

-- ---- whole calls
-- a Detail "D" with a text box: its name, its source (code 0xE0, "B") and a number (code 0x60)
abbrev form : ℕ → ℕ → List ℕ
form name high =
    dump "2A" ++ replicate 9 0x00
    ++ dump "FE 98 00  DF 02 44 00  FE 6D 00"
    ++ (dump "DC 02" ++ (name ∷ 0x00 ∷ []))
    ++ dump "E0 02 42 00"
    ++ (dump "60 05" ++ (high ∷ 0xFD ∷ []))

-- the older table has no 0xE0, the newer ties it to 0x001B; 0x60 is tied to `number`
abbrev older : List ℕ
older = dump "2A 00 01 00  02 6D 00 02 00  60 36 00 00  DC 14 00 01"

abbrev newer : ℕ → List ℕ
newer number = dump "2A 00 01 00  02 6D 00 03 00  60" ++ (number ∷ 0x00 ∷ 0x00 ∷ []) ++ dump "DC 14 00 01  E0 1B 00 01"

abbrev call : List ℕ → List ℕ → Answer
call table stream = (panel_exit table stream (replicate 16 old) (replicate 24 old)).answer

pub calls :
    (call (newer 0x36) (form 0x41 0xFF) ≡ answer 0 1 0 0)
    × (call older (form 0x41 0xFF) ≡ answer 0 0 1 4)  -- the code of the source isn't in the table
    × (call (newer 0x1B) (form 0x41 0x00) ≡ answer 0 0 1 4)  -- a second source
    × (call (newer 0x96) (form 0x41 0xFF) ≡ answer 0 0 1 5)  -- a negative Width
    × (call (newer 0x96) (form 0x41 0x00) ≡ answer 0 1 0 0)
    × (call (newer 0x36) (form 0x44 0x00) ≡ answer 0 0 1 3)  -- two of the name "D"
    × (call older [] ≡ answer 0 1 0 0)  -- a later stream without controls
unfolding panel_open
calls = (refl, refl, refl, refl, refl, refl, refl)

-- refusals leave all as it was, with the reading's counts; on 0 the rows are written, for no as for yes
pub refusals :
    (panel_exit (dump "2A") (form 0x41 0x00) (old ∷ []) (old ∷ []) ≡ record { answer = refusal 8; controls = old ∷ []; properties = old ∷ [] })
    × ((panel_exit older (dump "2A") [] []).answer ≡ refusal 4)
    × (panel_exit older (form 0x41 0x00) (replicate 15 old) [] ≡ record { answer = answer 6 2 4 0; controls = replicate 15 old; properties = [] })
    × ((panel_exit older (form 0x41 0x00) (replicate 16 old) (replicate 23 old)).answer ≡ answer 7 2 4 0)
    × ((panel_exit older (form 0x41 0x00) (replicate 17 old) (replicate 24 old)).controls
    ≡ 0x98 ∷ 0 ∷ 15 ∷ 2 ∷ 0 ∷ 1 ∷ 0 ∷ no_parent ∷ 0x6D ∷ 0 ∷ 22 ∷ 2 ∷ 1 ∷ 3 ∷ 1 ∷ 0 ∷ old ∷ [])
unfolding panel_open
refusals = (refl, refl, refl, refl, refl)
