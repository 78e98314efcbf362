-- The next property of a run, and what is asked of a table and a stream that are walked.
use Rattle.std.specs.Prelude.{ℕ, ◌≡◌, ◌≤◌, true, cond, List, length}
use Rattle.std.proofs.Math.Option.{Option, none}
use Rattle.rules.specs.Answer.{longest}
use Rattle.rules.specs.CodeTable.{well_formed_lem}
use Rattle.rules.specs.Access2000.{Prop, goes_on_lem, property_at}
use Rattle.run2000.specs.declared.Stored.{Stored}

-- the property at p, where the run goes on there
unfoldable pub next_at : List ℕ → ℕ → Option Prop
next_at s p = cond (goes_on_lem s p) (property_at s p) none

abbrev pub stored : Prop → Stored
stored q = record { id = q.id; start = q.start; size = q.size }

-- what is known of the table and the stream beforehand
pub record Given (t s : List ℕ) : Type 0 where
  pub formed : well_formed_lem t ≡ true
  pub small : length s ≤ longest
