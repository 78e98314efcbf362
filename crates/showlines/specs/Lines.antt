-- The lines in which a form is shown: the first one, an object's, a control's, a property's.
use Rattle.std.specs.Prelude.{ℕ, zero, suc, ◌+◌, Bool, false, cond, List, [], ◌∷◌, ◌++◌, leb, ltb, eqb, length}
use Rattle.std.proofs.Math.Option.{Option, none, some}
use Rattle.std.specs.Int.Bits.{bit_or}
use Rattle.rules.specs.Lists.{find, text}
use Rattle.rules.specs.Bytes.{part}
use Rattle.rules.specs.Digits.{decimal, hex}
use Rattle.rules.specs.Texts.{label}
use Rattle.rules.specs.NameTables.{control_type_names}
use Rattle.rules.specs.Names.{name_in_lem, names_for}
use Rattle.rules.specs.CodeTable.{header}
use Rattle.rules.specs.Csv.{or_id}
use Rattle.rules.specs.Listing.{word}
use Rattle.rules.specs.Later.{tree_of}
use Rattle.rules.specs.Read2000.{is_report}
use Rattle.rules.specs.Blob.{is2000}
use Rattle.countlater.specs.Count.{is_tree}
use Rattle.showtext.specs.Shown.{quoted, loose_text, value_text}
use Rattle.showlines.specs.declared.Reading.{Reading}
use Rattle.showlines.specs.declared.Reading.TheVariants.{Form, Report, Tree, Scan, TooShort}
use Rattle.showlines.specs.declared.Scope.{Scope}
use Rattle.showlines.specs.declared.Scope.TheVariants.{OfForm, OfReport, OfEntry, NoScope}
use Rattle.showlines.specs.declared.Owner.{Owner}

-- ---- which reading a stream has
-- of a later stream: a tree, a scan, or that it is too short for either
unfoldable pub later_kind : List ℕ → Reading
later_kind s = cond (ltb (length s) 14) TooShort (cond (is_tree (tree_of s)) Tree Scan)

unfoldable pub reading_kind : List ℕ → List ℕ → Reading
reading_kind t s = cond (is2000 t s) (cond (is_report s) Report Form) (later_kind s)

unfoldable pub reading_text : Reading → List ℕ
reading_text Form = text "Access 2000 form"
reading_text Report = text "Access 2000 report"
reading_text Tree = text "later tree"
reading_text Scan = text "later scan"
reading_text TooShort = text "too short"

-- `Access 2000 form, 9 controls, 43 properties, 2 unmapped`
unfoldable pub first_line : Reading → ℕ → ℕ → ℕ → List ℕ
first_line reading controls properties unmapped =
    reading_text reading ++ (text ", " ++ (decimal controls ++ (text " controls, " ++ (decimal properties ++ (text " properties, " ++ (decimal unmapped ++ text " unmapped\n"))))))

unfoldable pub object_line : Reading → List ℕ
object_line Form = text "form\n"
object_line Report = text "report\n"
object_line Tree = text "object\n"
object_line Scan = text "object\n"
object_line TooShort = text "object\n"

-- ---- how deep a line stands
-- "a line of depth d begins with 2*d blanks"
unfoldable pub blanks : ℕ → List ℕ
blanks zero = []
blanks (suc d) = 0x20 ∷ 0x20 ∷ blanks d

-- ---- whose properties are shown
-- the scope in which its codes are looked up, with an entry's code; in the later layout there is none. How deep the properties stand
abbrev pub owner : Scope → ℕ → Owner
owner scope depth = record { scope = scope; depth = depth }

unfoldable pub object_scope : Reading → Scope
object_scope Form = OfForm
object_scope Report = OfReport
object_scope Tree = NoScope
object_scope Scan = NoScope
object_scope TooShort = NoScope

abbrev pub object_owner : Reading → Owner
object_owner reading = owner (object_scope reading) 1

-- "A header code gets 0x1800 joined by OR for a form, 0x1900 for a report.": what a row's type was in the stream, by the first header code that gives it
unfoldable pub header_mark : Reading → ℕ
header_mark Form = 0x1800
header_mark Report = 0x1900
header_mark Tree = 0x1800
header_mark Scan = 0x1800
header_mark TooShort = 0x1800

abbrev pub or_type : ℕ → Option ℕ → ℕ
or_type type none = type
or_type type (some code) = code

unfoldable pub stored_type : List ℕ → ℕ → ℕ → ℕ
stored_type headers mark type = or_type type (find (λ code. eqb (bit_or mark code) type) headers)

-- "An entry's scope is its type as stored."
unfoldable pub control_scope : List ℕ → Reading → ℕ → Scope
control_scope t Form type = OfEntry (stored_type (header t) (header_mark Form) type)
control_scope t Report type = OfEntry (stored_type (header t) (header_mark Report) type)
control_scope t Tree type = NoScope
control_scope t Scan type = NoScope
control_scope t TooShort type = NoScope

-- a control's properties stand one deeper than itself
abbrev pub control_owner : List ℕ → Reading → List ℕ → Owner
control_owner t reading row = owner (control_scope t reading (word row 0)) (word row 6 + 2)

-- ---- a property's line
unfoldable pub scope_text : Scope → List ℕ
scope_text OfForm = text "form"
scope_text OfReport = text "report"
scope_text (OfEntry code) = text "entry " ++ hex 4 code
scope_text NoScope = []

-- "an untied one shows 0x8000 joined by OR with the raw code"; where there is no scope no code is looked up
unfoldable pub is_unmapped : Scope → ℕ → Bool
is_unmapped OfForm id = leb 0x8000 id
is_unmapped OfReport id = leb 0x8000 id
is_unmapped (OfEntry code) id = leb 0x8000 id
is_unmapped NoScope id = false

-- the raw code is the id's low byte
unfoldable pub unmapped_text : Scope → ℕ → List ℕ
unmapped_text scope id = text "!! unmapped code " ++ (hex 2 id ++ (text " of " ++ scope_text scope))

-- the property's name, or its id
unfoldable pub key_text : Scope → ℕ → ℕ → List ℕ
key_text scope mark id = cond (is_unmapped scope id) (unmapped_text scope id) (or_id (name_in_lem (names_for mark) id) id)

unfoldable pub property_line : List ℕ → Owner → List ℕ → List ℕ
property_line stream o row =
    blanks o.depth ++ (key_text o.scope (word row 1) (word row 0) ++ (text " = " ++ (value_text stream row ++ text "\n")))

-- ---- a control's line
-- the type's name, or its code
unfoldable pub or_code : List ℕ → ℕ → List ℕ
or_code [] code = text "type " ++ hex 4 code
or_code (b ∷ s) code = b ∷ s

unfoldable pub type_text : ℕ → List ℕ
type_text code = or_code (name_in_lem control_type_names code) code

-- by the name's mark: a label; bytes that aren't UTF-16; UTF-16
unfoldable pub name_text : List ℕ → ℕ → ℕ → ℕ → List ℕ
name_text stream mark start size =
    cond (eqb mark 1) (label start)
    (cond (eqb mark 2) (loose_text stream start size)
    (quoted (part stream start size)))

unfoldable pub control_line : List ℕ → ℕ → List ℕ → List ℕ
control_line stream n row =
    blanks (word row 6 + 1)
    ++ (text "#" ++ (decimal n ++ (text " " ++ (type_text (word row 0) ++ (text " " ++ (name_text stream (word row 1) (word row 2) (word row 3) ++ text "\n"))))))
