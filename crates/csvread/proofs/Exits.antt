-- What a caller sees, by what was counted.
use Prim.Native.Nat.{ℕ, ◌≤◌, ◌<◌}
use native.Mathlib.Omega.{arith}
use native.Mathlib.Nat.{zero-add}
use mathlib.Core.Path.{◌≡◌, refl, sym, ap, ◌∙◌}
use mathlib.Core.Bool.{Bool, true, false, ◌||◌}
use mathlib.Core.List.{List, [], ◌∷◌, ◌++◌}
use mathlib.Core.Logic.{◌⊎◌, inl, inr}
use mathlib.Core.Option.{Option, none, some}
use lib.Dec.{ltb}
use lib.ListN.{length, drop}
use lib.Seq.{sets, sets-eq}
use borrow.Author.Tests.{lt-ltb, le-ltb}
use Rattle.rules.specs.Lists.{concat}
use Rattle.rules.specs.Answer.{answer, refusal}
use Rattle.rules.specs.Rows.{field_width, room}
use Rattle.rules.specs.Csv.{Fields, read_from, fields_of, countable, FieldsExit, fields_by, fields_exit}
use Rattle.rules.specs.declared.Answer.{Answer}
use Rattle.rules.specs.declared.Mode.TheVariants.{Start}
use Rattle.rules.proofs.ListLaws.{none_some}
use Rattle.csvlaws.proofs.CsvLaws.{countable-room}
use Rattle.csvlaws.proofs.CsvReaderLaws.{counted}
use Rattle.std.specs.Prelude as rust
use Rattle.std.specs.Prelude.{Some, None}
use Rattle.csvread.specs.declared.Size.{Size}
use Rattle.csvread.specs.Places.{counted_as, rows_of, out_of}
use Rattle.csvread.proofs.CountLaws.{bytes-are, fields-are}

-- ---- the fields
pub empty-none : (s : List ℕ) → length s ≡ 0 → fields_of s ≡ none
unfolding fields_of
empty-none [] e = refl
empty-none (b ∷ s) e = absurd (omega arith)

pub fields_read : (s : List ℕ) → (length s ≡ 0 → ⊥) → fields_of s ≡ read_from Start 0 s
unfolding fields_of
fields_read [] n = absurd (n refl)
fields_read (b ∷ s) n = refl

pub uncounted : (o : Option Fields) → counted_as (counted o) ≡ None → o ≡ none
uncounted none e = refl
uncounted (some fs) e = absurd (let z : ◌≡◌ {A = ℕ} 0 1 = cc in omega arith)

size_of : rust.Option Size → Size
size_of None = record { bytes = 0; fields = 0 }
size_of (Some s) = s

pub is-counted : (o : Option Fields) (b n : ℕ) → counted_as (counted o) ≡ Some (record { bytes = b; fields = n }) → counted o ≡ some (b, n)
unfolding size_of
is-counted none b n e = absurd (let z : ◌≡◌ {A = ℕ} 0 1 = cc in omega arith)
is-counted (some fs) b n e = λ i. some ((size_of (e i)).bytes, (size_of (e i)).fields)

-- ---- the exit
module _ (rows out : List ℕ) where
  abbrev refused_by : ℕ → FieldsExit
  refused_by k = record { answer = refusal k; rows = rows; out = out }

  pub none-exit : (s : List ℕ) → fields_of s ≡ none → fields_exit s rows out ≡ refused_by 14
  unfolding fields_exit
  none-exit s e = rw e

  or-true : (t : Bool) → (t || true) ≡ true
  or-true true = refl
  or-true false = refl

  full_by : (o : Option Fields) (b n : ℕ) → counted o ≡ some (b, n) → (countable (length out) < b) ⊎ (countable (room field_width rows) < n) → fields_by o rows out ≡ refused_by 13
  full_by none b n e h = absurd (none_some e)
  full_by (some fs) b n e (inl h) =
      let x : length (concat fs) ≡ b = bytes-are e in
      rw (lt-ltb (countable (length out)) (length (concat fs)) (omega arith))
  full_by (some fs) b n e (inr h) =
      let x : length fs ≡ n = fields-are e in
      rw (lt-ltb (countable (room field_width rows)) (length fs) (omega arith), or-true (ltb (countable (length out)) (length (concat fs))))

  pub full_exit : (s : List ℕ) (b n : ℕ) → fields_of s ≡ read_from Start 0 s → counted (read_from Start 0 s) ≡ some (b, n)
      → (countable (length out) < b) ⊎ (countable (room field_width rows) < n) → fields_exit s rows out ≡ refused_by 13
  unfolding fields_exit
  full_exit s b n e c h = rw e (full_by (read_from Start 0 s) b n c h)

  bytes-set : (v : List ℕ) → length v ≤ length out → v ++ drop (length v) out ≡ sets out 0 v
  bytes-set v h = sym (sets-eq v out 0 (omega arith) ∙ rw (zero-add (length v)))

  read_by : (o : Option Fields) (b n : ℕ) → counted o ≡ some (b, n) → b ≤ countable (length out) → n ≤ countable (room field_width rows)
      → fields_by o rows out ≡ record { answer = answer 0 b n 0; rows = rows_of o rows; out = out_of o out }
  read_by none b n e h k = absurd (none_some e)
  read_by (some fs) b n e h k =
      let x : length (concat fs) ≡ b = bytes-are e in
      let y : length fs ≡ n = fields-are e in
      let l : length (concat fs) ≤ length out = omega (arith, countable-room (length out)) in
      let z = bytes-set (concat fs) l in
      rw (le-ltb (countable (length out)) (length (concat fs)) (omega arith), le-ltb (countable (room field_width rows)) (length fs) (omega arith))
      λ i. record { answer = answer 0 (x i) (y i) 0; rows = rows_of (some fs) rows; out = z i }

  pub read-exit : (s : List ℕ) (b n : ℕ) → fields_of s ≡ read_from Start 0 s → counted (read_from Start 0 s) ≡ some (b, n)
      → b ≤ countable (length out) → n ≤ countable (room field_width rows)
      → fields_exit s rows out ≡ record { answer = answer 0 b n 0; rows = rows_of (read_from Start 0 s) rows; out = out_of (read_from Start 0 s) out }
  unfolding fields_exit
  read-exit s b n e c h k = rw e (read_by (read_from Start 0 s) b n c h k)

-- an answer and two slices are those of an exit
pub shown : {x : FieldsExit} {a r : Answer} {rows out rows' out' : List ℕ} → x ≡ record { answer = a; rows = rows; out = out } → r ≡ a → rows' ≡ rows → out' ≡ out
    → (r ≡ x.answer) × ((rows' ≡ x.rows) × (out' ≡ x.out))
shown e q f g = (q ∙ sym (ap (λ (x : FieldsExit). x.answer) e), (f ∙ sym (ap (λ (x : FieldsExit). x.rows) e), g ∙ sym (ap (λ (x : FieldsExit). x.out) e)))
