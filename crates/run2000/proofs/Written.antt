-- A run that was written: its rows, and that they show what the table says.
use Prim.Native.Nat.{ℕ, ◌+◌}
use mathlib.Core.Path.{◌≡◌, ap, ◌∙◌}
use mathlib.Core.List.{List, map}
use mathlib.Core.Option.{Option, some}
use lib.ListN.{length}
use Rattle.rules.specs.CodeTable.{row_of}
use Rattle.rules.specs.Access2000.{Prop}
use Rattle.rules.specs.Read2000.{property_in}
use Rattle.rules.specs.declared.Property.{Property}
use Rattle.rows.specs.Writing.{write_properties}
use Rattle.coderows.specs.Look.{Finds, Formed, body_rows}
use Rattle.coderows.specs.declared.Body.{Body}
use Rattle.run2000.specs.Runs.{shown_in, ran, run_act}

pub record RunOf (f : Prop → Property) (x : List Prop × ℕ) (old : List ℕ) (first : ℕ) (new : List ℕ) (row next : ℕ) : Type 0 where
  pub rows : new ≡ write_properties (map f x.0) old first
  pub row_is : row ≡ first + length x.0
  pub next-is : next ≡ x.1

pub run-written : {f : Prop → Property} {o : Option (List Prop × ℕ)} {x : List Prop × ℕ} {old : List ℕ} {first : ℕ} {new : List ℕ} {row next : ℕ}
    → o ≡ some x → some (ran new row next) ≡ run_act f o old first → RunOf f x old first new row next
run-written {f = f} {x = x} {old = old} {first = first} {new = new} {row = row} {next = next} oe e =
    let k : some (ran new row next) ≡ some (ran (write_properties (map f x.0) old first) (first + length x.0) x.1) = e ∙ ap (λ z. run_act f z old first) oe in
    let z : ran new row next ≡ ran (write_properties (map f x.0) old first) (first + length x.0) x.1 = cc in
    record { rows = ap (λ r. r.rows) z; row_is = ap (λ r. r.row) z; next-is = ap (λ r. r.next) z }

-- the rows of a scope's body show what the table says in that scope
pub shown-same : (t s : List ℕ) (kind code : ℕ) (body : Body) → Formed t → Finds t kind code body
    → shown_in (body_rows t body) s ≡ property_in t s (record { kind = kind; code = code })
unfolding shown_in property_in row_of
shown-same t s kind code body h f = ap (λ ties. shown_in ties s) (f.rows h)
