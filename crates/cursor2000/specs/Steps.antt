-- The entries of an Access 2000 stream, one at a time, and what the functions that move a cursor over them answer.
use Rattle.std.specs.Prelude.{ℕ, ◌+◌, ◌≡◌, true, false, List}
use Rattle.std.specs.Prelude as code
use Rattle.std.proofs.Math.Option.{Option, some}
use Rattle.rules.specs.Lists.{◌>>=◌}
use Rattle.rules.specs.Bytes.{half_at_lem}
use Rattle.rules.specs.Tree.{Entry, is_reported}
use Rattle.rules.specs.Access2000.{Prop, run_at, head_at_lem}
use Rattle.rules.proofs.ListLaws.{Every}
use Rattle.cursor.specs.Walk.{Steps}
use Rattle.cursor.specs.Stack.{count_of}
use Rattle.cursor.specs.Cursors.{top_at}

-- "Entry: u16 type, a run, then 0xFD for no list, or a list", up to the list's entries
unfoldable pub step_at : List ℕ → Steps Prop
step_at s p = do
  type ← half_at_lem s p
  (props, q) ← run_at s (p + 2)
  (list, e) ← head_at_lem s q
  some (record { type = type; props = props; children = list; next = e })

-- after the run that ends at q: how many entries the list has, and where they start
unfoldable pub list_at_lem : List ℕ → ℕ → Option (ℕ × ℕ)
list_at_lem s q = head_at_lem s q >>= λ h. some (count_of h.0, h.1)

-- the place after an entry of the top list that is skipped
pub record Skips (s : List ℕ) (at : ℕ) (r : code.Option ℕ) : Type 0 where
  pub over : (next : ℕ) → r ≡ code.Some next → (e : Entry Prop) × (top_at (step_at s) at ≡ some (e, next)) × (is_reported e ≡ false)
  pub kept : r ≡ code.None → Every (λ e. is_reported e.0 ≡ true) (top_at (step_at s) at)
