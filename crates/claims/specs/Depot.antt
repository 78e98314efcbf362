-- Wish 4 of document 02: one summary for a whole depot. "a proof that from a record of zeros, after any list of streams, each with its code table and room, each total
-- is the sum over the single readings of demand 2 that weren't refused by 12. Order of streams doesn't matter to the final record when none was refused
-- for the ceiling."
use Rattle.std.specs.Prelude.{ℕ, ◌+◌, ◌≤◌, ◌<◌, ◌≡◌, Bool, true, false, cond, ◌↔◌, ltb, leb, eqb, length}
use mathlib.Core.List.{List, [], ◌∷◌, map, Permᴰ}
use Rattle.std.proofs.Math.Option.{Option, none, some}
use Rattle.rules.specs.Lists.{same, how_many, tally, add_up}
use Rattle.rules.specs.Answer.{refusal}
use Rattle.rules.specs.CodeTable.{Tie}
use Rattle.rules.specs.NameTables.{control_type_names}
use Rattle.rules.specs.Names.{name_in_lem}
use Rattle.rules.specs.Rows.{control_width, property_width, room, rows_from}
use Rattle.rules.specs.Listing.{word}
use Rattle.rules.specs.Read2000.{Spot, tied}
use Rattle.rules.specs.Blob.{is2000, outcome, answer_of, Exit, exit, spots}
use Rattle.rules.specs.Totals.{answers_counted, type_names, types_counted, marks_counted, added_by, zeros, Total, at, totals_exit}
use Rattle.rules.specs.declared.Answer.{Answer}
use Rattle.rules.specs.declared.Totals.{Totals}
use Rattle.rules.specs.declared.Totalled.{Totalled}
use Rattle.claims.specs.Demand1.{Refused}

-- ---- a stream with its code table and room: "its room is two numbers of rows"
pub record Call : Type 0 where
  pub table : List ℕ
  pub stream : List ℕ
  pub control_room : ℕ
  pub property_room : ℕ

-- the answer and counts of its single reading
abbrev pub single : Call → Answer
single x = answer_of (outcome x.table x.stream x.control_room x.property_room)

-- what that adds
abbrev pub added : Call → Totals
added x = added_by x.table x.stream x.control_room x.property_room

-- the call, lent a record
abbrev pub called : Totals → Call → Totalled
called t x = totals_exit t x.table x.stream x.control_room x.property_room

-- "12, instead of the reading's answer"
abbrev pub By12 : Totals → Call → Type 0
By12 t x = (called t x).answer.number ≡ 12

-- "where any total would pass the ceiling"
abbrev pub Passes : Totals → Call → Type 0
Passes t x = (c : Total) × (4294967295 < at c t + at c (added x))

-- "then the record is unchanged and the counts are 0"
abbrev pub Unchanged : Totals → Call → Type 0
Unchanged t x = called t x ≡ record { answer = refusal 12; totals = t }

-- "Otherwise the call returns the reading's answer and counts .. and the record counts it."
pub record Counts (t : Totals) (x : Call) : Type 0 where
  pub answer : (called t x).answer ≡ single x
  pub totals : (c : Total) → at c (called t x).totals ≡ at c t + at c (added x)

-- ---- one call after the other, each lent the record that the one before left
unfoldable pub run : Totals → List Call → Totals
run t [] = t
run t (x ∷ xs) = run (called t x).totals xs

-- those that weren't refused by 12, in their order
unfoldable pub unrefused : Totals → List Call → List Call
unrefused t [] = []
unrefused t (x ∷ xs) = cond (eqb (called t x).answer.number 12) (unrefused (called t x).totals xs) (x ∷ unrefused (called t x).totals xs)

-- none was refused by 12
abbrev pub NoneBy12 : Totals → List Call → Type 0
NoneBy12 t [] = Unit {0}
NoneBy12 t (x ∷ xs) = (¬ By12 t x) × NoneBy12 (called t x).totals xs

-- one total, over single readings
abbrev pub over : Total → List Call → ℕ
over c xs = add_up (map (λ x. at c (added x)) xs)

-- how many controls and properties a stream has, "over those with 0"
abbrev pub controls_read : Call → ℕ
controls_read x = cond (eqb (single x).number 0) (single x).first 0

abbrev pub properties_read : Call → ℕ
properties_read x = cond (eqb (single x).number 0) (single x).second 0

-- ---- what one reading adds, by the rows that `exit` writes
abbrev pub has_type_named : List ℕ → List ℕ → Bool
has_type_named name row = same (name_in_lem control_type_names (word row 0)) name

abbrev pub has_high_id : List ℕ → Bool
has_high_id row = leb 0x8000 (word row 0)

abbrev pub has_low_id : List ℕ → Bool
has_low_id row = ltb (word row 0) 0x8000

abbrev pub has_mark : ℕ → List ℕ → Bool
has_mark mark row = eqb (word row 1) mark

abbrev pub control_rows_of : Exit → List (List ℕ)
control_rows_of e = rows_from control_width 0 e.answer.first e.controls

abbrev pub property_rows_of : Exit → List (List ℕ)
property_rows_of e = rows_from property_width 0 e.answer.second e.properties

pub record ByRows (x : Call) (e : Exit) : Type 0 where
  -- a number for each type name, and for the other types together
  pub types : (added x).types ≡ tally has_type_named types_counted (control_rows_of e)
  -- "unmapped (0x8000 or more in an Access 2000 stream) and mapped (the others)"
  pub unmapped_2000 : is2000 x.table x.stream ≡ true → (added x).unmapped ≡ how_many has_high_id (property_rows_of e)
  pub mapped_2000 : is2000 x.table x.stream ≡ true → (added x).mapped ≡ how_many has_low_id (property_rows_of e)
  pub unmapped-later : is2000 x.table x.stream ≡ false → (added x).unmapped ≡ 0
  pub mapped-later : is2000 x.table x.stream ≡ false → (added x).mapped ≡ e.answer.second
  pub marks : (added x).marks ≡ tally has_mark marks_counted (property_rows_of e)
  -- they add up to the counts
  pub types-all : add_up (added x).types ≡ e.answer.first
  pub mapping_all : (added x).unmapped + (added x).mapped ≡ e.answer.second
  pub marks-all : add_up (added x).marks ≡ e.answer.second

-- what 0x8000 or more comes of: the code table has no row for the code in its scope
abbrev pub is_none : Option Tie → Bool
is_none none = true
is_none (some r) = false

abbrev pub is_untied : List ℕ → Spot → Bool
is_untied t y = is_none (tied t y.scope y.prop.id)

-- a refused stream adds to the answers alone
pub record NothingElse (d : Totals) : Type 0 where
  pub types : d.types ≡ zeros.types
  pub unmapped : d.unmapped ≡ 0
  pub mapped : d.mapped ≡ 0
  pub marks : d.marks ≡ zeros.marks

-- ---- the answers, and when they are given
pub data CountAnswer (t : Totals) (x : Call) : Answer → Type 0 where
  -- "12, instead of the reading's answer, where any total would pass the ceiling; then .. the counts are 0"
  twelve : Passes t x → CountAnswer t x (refusal 12)
  -- "Otherwise the call returns the reading's answer and counts"
  reading : ¬ Passes t x → CountAnswer t x (single x)

pub record Wish4 : Type 0 where
  -- "each total is the sum over the single readings .. that weren't refused by 12"
  pub sums : (xs : List Call) (c : Total) → at c (run zeros xs) ≡ over c (unrefused zeros xs)
  -- nothing is left out and nothing is counted twice: neither a stream, nor a control, nor a property
  pub streams : (xs : List Call) → add_up (run zeros xs).answers ≡ length (unrefused zeros xs)
  pub controls : (xs : List Call) → add_up (run zeros xs).types ≡ add_up (map controls_read (unrefused zeros xs))
  pub mappings : (xs : List Call) → (run zeros xs).unmapped + (run zeros xs).mapped ≡ add_up (map properties_read (unrefused zeros xs))
  pub marks : (xs : List Call) → add_up (run zeros xs).marks ≡ add_up (map properties_read (unrefused zeros xs))
  -- "Order of streams doesn't matter to the final record when none was refused": if one order has no 12, none has
  pub any_order : {xs ys : List Call} → Permᴰ xs ys → (t : Totals) → NoneBy12 t xs → NoneBy12 t ys × (run t xs ≡ run t ys)
  -- and that is so exactly when no total of them all passes the ceiling
  pub none-refused : (xs : List Call) → NoneBy12 zeros xs ↔ ((c : Total) → over c xs ≤ 4294967295)
  -- 12 exactly where any total would pass the ceiling, and then nothing else happens; otherwise the reading counts
  pub twelve : (t : Totals) (x : Call) → By12 t x ↔ Passes t x
  pub unchanged : (t : Totals) (x : Call) → By12 t x → Unchanged t x
  pub otherwise : (t : Totals) (x : Call) → ¬ By12 t x → Counts t x
  pub exactly : (t : Totals) (x : Call) (a : Answer) → CountAnswer t x a ↔ (a ≡ (called t x).answer)
  -- a total that is at most the ceiling stays so
  pub held : (t : Totals) (x : Call) (c : Total) → at c t ≤ 4294967295 → at c (called t x).totals ≤ 4294967295
  -- the reading's answer and counts are those of `exit` with slices of that room
  pub the_same : (x : Call) (controls properties : List ℕ) → room control_width controls ≡ x.control_room → room property_width properties ≡ x.property_room
      → single x ≡ (exit x.table x.stream controls properties).answer
  -- "Blob streams by answer number": a 1 at its answer's place
  pub answers : (x : Call) → (added x).answers ≡ map (λ n. cond (eqb (single x).number n) 1 0) answers_counted
  pub one_answer : (x : Call) → add_up (added x).answers ≡ 1
  -- "and, over those with 0, .."
  pub rows : (x : Call) (controls properties : List ℕ) → (single x).number ≡ 0 → (exit x.table x.stream controls properties).answer.number ≡ 0
      → ByRows x (exit x.table x.stream controls properties)
  pub untied : (x : Call) → (single x).number ≡ 0 → is2000 x.table x.stream ≡ true → (added x).unmapped ≡ how_many (is_untied x.table) (spots x.stream)
  pub others : (x : Call) → Refused (single x) → NothingElse (added x)
  -- the table of control types has thirty names
  pub names : length type_names ≡ 30
