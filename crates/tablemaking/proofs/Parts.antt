-- The table's parts, one line at a time, and together.
use Prim.Native.Nat.{ℕ, ◌+◌, ◌≤◌, ◌<◌}
use native.Mathlib.Omega.{arith}
use mathlib.Core.Path.{◌≡◌, refl, sym, ap, subst, ◌∙◌}
use mathlib.Core.Bool.{Bool, true, false, cond}
use mathlib.Core.List.Memᴰ
use mathlib.Core.List.{List, [], ◌∷◌, ◌++◌, append_assoc}
use lib.ListN.{length, drop}
use Rattle.rules.specs.Lists.{concat}
use Rattle.rules.specs.CodeTable.{Tie}
use Rattle.rules.specs.Bytes.{two_bytes_lem}
use Rattle.rules.specs.Join.{tie_bytes, ties_bytes, scope_bytes, table_bytes}
use Rattle.joinlaws.proofs.TableBytesLaws.{codes_bytes, contents_bytes, bodies_bytes}
use Rattle.text.specs.Writer.{Wrote}
use Rattle.text.proofs.Remains.{Remains, all_remains, on, done}
use Rattle.std.proofs.Common.{Ok}
use Rattle.tablelines.specs.Items.{items_of, said, LineAt}
use Rattle.tablelines.specs.declared.Item.{Item as Taken}
use Rattle.tablelines.specs.declared.Item.TheVariants.{Nothing as no_part, Layout as a_layout, Header as a_header, Scope as a_scope, Row as a_row}
use Rattle.tablelines.specs.Items.{Item}
use Rattle.tablelines.specs.Items.{Nothing, Layout, Header, Scope, Row, Bad}
use Rattle.tablelines.specs.declared.Line.{Line}
use Rattle.tablemaking.specs.Judged.{judged}
use Rattle.tablemaking.proofs.Judging.{no_items}
use Rattle.tablemaking.specs.Made.{by_part_lem, on_header, on_scope, on_row, tie, headers_of, rows_of, scopes_of, code_bytes, row_bytes, is_scope, rows_in_lem, scope_said, part_bytes_lem, parts_said, scopes_said, table_said, FewRows}

-- ---- a line that says another part
module _ {A : Type 0} (none : A) where
  pub no_header : (f : ℕ → A) (item : Taken) → ((code : ℕ) → item ≡ a_header code → ⊥) → on_header none f (said (Ok item)) ≡ none
  unfolding by_part_lem
  no_header f no_part n = refl
  no_header f (a_layout byte) n = refl
  no_header f (a_header code) n = absurd (n code refl)
  no_header f (a_scope kind code) n = refl
  no_header f (a_row id target kind) n = refl

  pub no-scope : (f : ℕ → ℕ → A) (item : Taken) → ((kind code : ℕ) → item ≡ a_scope kind code → ⊥) → on_scope none f (said (Ok item)) ≡ none
  unfolding by_part_lem
  no-scope f no_part n = refl
  no-scope f (a_layout byte) n = refl
  no-scope f (a_header code) n = refl
  no-scope f (a_scope kind code) n = absurd (n kind code refl)
  no-scope f (a_row id target kind) n = refl

  pub no_row : (f : ℕ → ℕ → ℕ → A) (item : Taken) → ((id target kind : ℕ) → item ≡ a_row id target kind → ⊥) → on_row none f (said (Ok item)) ≡ none
  unfolding by_part_lem
  no_row f no_part n = refl
  no_row f (a_layout byte) n = refl
  no_row f (a_header code) n = refl
  no_row f (a_scope kind code) n = refl
  no_row f (a_row id target kind) n = absurd (n id target kind refl)

pub no_part-said : (bodies : Bool) (error : ℕ) → part_bytes_lem bodies (Bad error) ≡ []
unfolding by_part_lem part_bytes_lem row_bytes code_bytes
no_part-said true error = refl
no_part-said false error = refl

-- ---- a line more
module _ (item : Item) (items : List Item) where
  pub part-said : (bodies : Bool) → parts_said bodies (item ∷ items) ≡ part_bytes_lem bodies item ++ parts_said bodies items
  unfolding parts_said concat
  part-said bodies = refl

  pub a_scope-said : scopes_said (item ∷ items) ≡ scope_said item items ++ scopes_said items
  unfolding scopes_said
  a_scope-said = refl

pub no_parts : (bodies : Bool) → parts_said bodies [] ≡ []
unfolding parts_said concat
no_parts bodies = refl

pub no-scopes : scopes_said [] ≡ []
unfolding scopes_said
no-scopes = refl

-- ---- what is said of each line, written line by line
pub record Left (part : List Item → List ℕ) (s old : List ℕ) (at : ℕ) (now : List ℕ) (p place : ℕ) : Type 0 where
  pub rest : Remains old at (part (items_of s)) now p (part (items_of (drop place s)))
  pub within : place ≤ length s + 1

pub all_left : {part : List Item → List ℕ} {s old : List ℕ} {at : ℕ} → Left part s old at old at 0
all_left = record { rest = all_remains; within = omega arith }

module _ {part : List Item → List ℕ} {s old now : List ℕ} {at p place : ℕ} (L : Left part s old at now p place) where
  pub line-put : {line : Line} {x later : List ℕ} {next : ℕ} → LineAt s place line → part (said line.item ∷ items_of (drop line.next s)) ≡ x ++ part (items_of (drop line.next s))
      → Wrote now p x later next → Left part s old at later next line.next
  line-put l e w = record { rest = on L.rest (ap part l.is ∙ e) w; within = l.within }

  pub no-line-left : length s ≤ place → part [] ≡ [] → Wrote old at (part (items_of s)) now p
  no-line-left h e = done L.rest (ap part (no_items s place h) ∙ e)

-- ---- rows above the next scope
not_both : {A : Type 0} → false ≡ true → A
not_both e = let z : ◌≡◌ {A = ℕ} 0 1 = ap (λ (b : Bool). cond b 1 0) e in absurd (omega arith)

pub rows_end : (item : Item) (items : List Item) → is_scope item ≡ true → length (rows_of (item ∷ items)) ≡ 0
unfolding by_part_lem rows_of is_scope
rows_end Nothing items e = not_both e
rows_end (Layout byte) items e = not_both e
rows_end (Header code) items e = not_both e
rows_end (Scope kind code) items e = refl
rows_end (Row id target kind) items e = not_both e
rows_end (Bad error) items e = not_both e

pub rows_on : (item : Item) (items : List Item) → is_scope item ≡ false → length (rows_of (item ∷ items)) ≡ rows_in_lem item + length (rows_of items)
unfolding by_part_lem rows_of is_scope rows_in_lem
rows_on Nothing items e = omega arith
rows_on (Layout byte) items e = omega arith
rows_on (Header code) items e = omega arith
rows_on (Scope kind code) items e = not_both (sym e)
rows_on (Row id target kind) items e = omega arith
rows_on (Bad error) items e = omega arith

pub no-rows-left : (s : List ℕ) (at : ℕ) → length s ≤ at → length (rows_of (items_of (drop at s))) ≡ 0
unfolding rows_of
no-rows-left s at h = rw (no_items s at h)

-- ---- few rows in each scope
pub few-rest : (item : Item) (items : List Item) → FewRows (item ∷ items) → FewRows items
unfolding by_part_lem scopes_of
few-rest Nothing items f = f
few-rest (Layout byte) items f = f
few-rest (Header code) items f = f
few-rest (Scope kind code) items f = λ s m. f s (Memᴰ.tail m)
few-rest (Row id target kind) items f = f
few-rest (Bad error) items f = f

pub few_of : (item : Item) (kind code : ℕ) (items : List Item) → item ≡ Scope kind code → FewRows (item ∷ items) → length (rows_of items) < 65536
unfolding by_part_lem scopes_of
few_of item kind code items e f =
    let g : FewRows (Scope kind code ∷ items) = subst (λ (x : Item). FewRows (x ∷ items)) e f in
    g (record { kind = kind; code = code; rows = rows_of items }) (Memᴰ.head refl)

-- ---- the parts together
pub codes_are : (items : List Item) → parts_said false items ≡ codes_bytes (headers_of items)
unfolding by_part_lem parts_said part_bytes_lem concat code_bytes headers_of
codes_are [] = refl
codes_are (Nothing ∷ items) = codes_are items
codes_are (Layout byte ∷ items) = codes_are items
codes_are (Header code ∷ items) = ap (λ (x : List ℕ). two_bytes_lem code ++ x) (codes_are items)
codes_are (Scope kind code ∷ items) = codes_are items
codes_are (Row id target kind ∷ items) = codes_are items
codes_are (Bad error ∷ items) = codes_are items

pub scopes-are : (items : List Item) → scopes_said items ≡ contents_bytes (scopes_of items)
unfolding by_part_lem scopes_said concat scope_said scopes_of
scopes-are [] = refl
scopes-are (Nothing ∷ items) = scopes-are items
scopes-are (Layout byte ∷ items) = scopes-are items
scopes-are (Header code ∷ items) = scopes-are items
scopes-are (Scope kind code ∷ items) = ap (λ (x : List ℕ). scope_bytes (record { kind = kind; code = code; rows = rows_of items }) ++ x) (scopes-are items)
scopes-are (Row id target kind ∷ items) = scopes-are items
scopes-are (Bad error ∷ items) = scopes-are items

-- those above the first scope stand before the bodies
rows-with : (items : List Item) → parts_said true items ≡ ties_bytes (rows_of items) ++ bodies_bytes (scopes_of items)
unfolding by_part_lem parts_said part_bytes_lem concat row_bytes rows_of scopes_of
rows-with [] = refl
rows-with (Nothing ∷ items) = rows-with items
rows-with (Layout byte ∷ items) = rows-with items
rows-with (Header code ∷ items) = rows-with items
rows-with (Scope kind code ∷ items) = rows-with items
rows-with (Row id target kind ∷ items) =
    let r : Tie = tie id target kind in
    ap (λ (x : List ℕ). tie_bytes r ++ x) (rows-with items) ∙ sym (append_assoc (tie_bytes r) (ties_bytes (rows_of items)) (bodies_bytes (scopes_of items)))
rows-with (Bad error ∷ items) = rows-with items

no_ties : (rs : List Tie) → length rs ≡ 0 → ties_bytes rs ≡ []
unfolding concat
no_ties [] e = refl
no_ties (r ∷ rs) e = absurd (omega arith)

pub rows_are : (items : List Item) → length (rows_of items) ≡ 0 → parts_said true items ≡ bodies_bytes (scopes_of items)
rows_are items e = rows-with items ∙ ap (λ (x : List ℕ). x ++ bodies_bytes (scopes_of items)) (no_ties (rows_of items) e)

-- the whole table
pub parts_are : (s : List ℕ) (layout headers scopes : ℕ) → layout ≡ (judged s).layout → headers ≡ length (headers_of (items_of s)) → scopes ≡ length (scopes_of (items_of s)) → length (rows_of (items_of s)) ≡ 0
    → (layout ∷ []) ++ ((headers ∷ []) ++ (two_bytes_lem scopes ++ (parts_said false (items_of s) ++ (scopes_said (items_of s) ++ parts_said true (items_of s))))) ≡ table_said s
unfolding table_said table_bytes
parts_are s layout headers scopes a b d e = rw (a, b, d, codes_are (items_of s), scopes-are (items_of s), rows_are (items_of s) e)
