-- Wish 4. "One summary for a whole depot": "a running totals record lent to each stream's count and altered there".
use Rattle.std.specs.Prelude.{ℕ, ◌+◌, Bool, not, cond, ◌&&◌, List, [], ◌∷◌, ◌++◌, map, leb, eqb, get_or, replicate}
use Rattle.rules.specs.Lists.{all, same, distinct, how_many, tally, text}
use Rattle.rules.specs.Answer.{refusal, over_ceiling}
use Rattle.rules.specs.NameTables.{control_type_names}
use Rattle.rules.specs.Names.{name_in_lem}
use Rattle.rules.specs.Reading.{Control, properties}
use Rattle.rules.specs.Blob.{Outcome, refused, read, is2000, outcome, answer_of}
use Rattle.rules.specs.declared.Answer.{Answer}
use Rattle.rules.specs.declared.Property.{Property}
use Rattle.rules.specs.declared.Totals.{Totals}
use Rattle.rules.specs.declared.Totalled.{Totalled}

-- ---- what is counted, place by place
-- "Blob streams by answer number": those that a Blob can be given
abbrev pub answers_counted : List ℕ
answers_counted = 0 ∷ 4 ∷ 5 ∷ 6 ∷ 7 ∷ 8 ∷ []

-- "controls by type name": each name once, where the table of control types first has it
unfoldable pub type_names : List (List ℕ)
type_names = distinct (map (λ row. text row.1) control_type_names)

-- "(other types together)": a type that isn't in the table has the empty name, which stands last
unfoldable pub types_counted : List (List ℕ)
types_counted = type_names ++ ([] ∷ [])

-- "values by mark"
abbrev pub marks_counted : List ℕ
marks_counted = 0 ∷ 1 ∷ 2 ∷ 3 ∷ 4 ∷ 5 ∷ 6 ∷ 7 ∷ 8 ∷ []

-- ---- what one reading adds
abbrev pub is_numbered : ℕ → Answer → Bool
is_numbered number a = eqb a.number number

abbrev pub is_typed : List ℕ → Control → Bool
is_typed name c = same (name_in_lem control_type_names c.type) name

abbrev pub is_marked : ℕ → Property → Bool
is_marked mark p = eqb p.value.mark mark

-- "properties unmapped (0x8000 or more in an Access 2000 stream) and mapped (the others)"
abbrev pub is_unmapped : Bool → Property → Bool
is_unmapped in2000 p = in2000 && leb 0x8000 p.id

abbrev pub is_mapped : Bool → Property → Bool
is_mapped in2000 p = not (is_unmapped in2000 p)

-- "over those with 0": a refused stream has no controls and no properties to count
abbrev pub controls_in : Outcome → List Control
controls_in (refused a) = []
controls_in (read r) = r.controls

abbrev pub properties_in : Outcome → List Property
properties_in (refused a) = []
properties_in (read r) = properties r

unfoldable pub adds : Bool → Outcome → Totals
adds in2000 o = record {
  answers = tally is_numbered answers_counted (answer_of o ∷ []);
  types = tally is_typed types_counted (controls_in o);
  unmapped = how_many (is_unmapped in2000) (properties_in o);
  mapped = how_many (is_mapped in2000) (properties_in o);
  marks = tally is_marked marks_counted (properties_in o);
}

unfoldable pub added_by : List ℕ → List ℕ → ℕ → ℕ → Totals
added_by t s control_room property_room = adds (is2000 t s) (outcome t s control_room property_room)

-- ---- records
-- "from a record of zeros"
unfoldable pub zeros : Totals
zeros = record { answers = replicate 6 0; types = replicate 31 0; unmapped = 0; mapped = 0; marks = replicate 9 0 }

-- one of the totals, by its place
pub data Total : Type 0 where
  answer : ℕ → Total
  type : ℕ → Total
  unmapped : Total
  mapped : Total
  mark : ℕ → Total

unfoldable pub at : Total → Totals → ℕ
at (answer i) t = get_or t.answers i 0
at (type i) t = get_or t.types i 0
at unmapped t = t.unmapped
at mapped t = t.mapped
at (mark i) t = get_or t.marks i 0

-- place by place; what the one has more than the other stays
unfoldable pub sums : List ℕ → List ℕ → List ℕ
sums [] ys = ys
sums (x ∷ xs) [] = x ∷ xs
sums (x ∷ xs) (y ∷ ys) = (x + y) ∷ sums xs ys

unfoldable pub sum : Totals → Totals → Totals
sum t d = record {
  answers = sums t.answers d.answers;
  types = sums t.types d.types;
  unmapped = t.unmapped + d.unmapped;
  mapped = t.mapped + d.mapped;
  marks = sums t.marks d.marks;
}

-- "whole numbers with a ceiling of 4,294,967,295"
abbrev pub ceiling : ℕ
ceiling = 4294967295

abbrev pub holds : ℕ → Bool
holds n = leb n ceiling

-- no total passes it
unfoldable pub within : Totals → Bool
within t = all holds t.answers && (all holds t.types && (holds t.unmapped && (holds t.mapped && all holds t.marks)))

-- ---- all that a caller sees
-- "12, instead of the reading's answer, where any total would pass the ceiling; then the record is unchanged and the counts are 0.
-- Otherwise the call returns the reading's answer and counts .. and the record counts it."
unfoldable pub totals_exit : Totals → List ℕ → List ℕ → ℕ → ℕ → Totalled
totals_exit now t s control_room property_room =
    let next = sum now (added_by t s control_room property_room) in
    cond (within next) (record { answer = answer_of (outcome t s control_room property_room); totals = next })
    (record { answer = refusal over_ceiling; totals = now })
