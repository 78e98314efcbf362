-- Document 02, wish 12, for any number of offices, of the calls of a function that joins two code tables. (Calls has the two orders and the two groupings.)
use Rattle.std.specs.Prelude.{ℕ, ◌≡◌}
use mathlib.Core.List.{List, Permᴰ}
use Rattle.std.proofs.Math.Option.{Option, none, some}
use Rattle.rules.specs.Texts.{TextExit}
use Rattle.rules.specs.Join.{result}
use Rattle.claims.specs.JoiningMany.{Plan, tables, outcome, Ready}
use Rattle.calls.specs.Always.{Fn, Call, handed, seen}
use Rattle.calls.specs.Functions.{Join}

-- a plan carried out by calls of f, with what came of it
pub data Carried (f : Fn Join TextExit) : Plan → Option (List ℕ) → Type 0 where
  table : (t : List ℕ) → Carried f (Plan.table t) (some t)
  -- what came of the two sides is handed to a call
  call : {p q : Plan} {a b out : List ℕ} → Carried f p (some a) → Carried f q (some b) → (c : Call f) → handed c ≡ record { one = a; other = b; out = out }
      → Carried f (Plan.join p q out) (result (seen c))
  -- nothing came of a side: there is nothing to join
  no_first : {p q : Plan} {out : List ℕ} → Carried f p none → Carried f (Plan.join p q out) none
  no_second : {p q : Plan} {out : List ℕ} → Carried f q none → Carried f (Plan.join p q out) none

pub record PlansCarried (f : Fn Join TextExit) : Type 0 where
  -- "With four offices we can't tell them in which order to join": any number of tables, in any order and grouping
  pub any_plan : (p q : Plan) (r r' : Option (List ℕ)) → Ready p → Ready q → Permᴰ (tables p) (tables q) → Carried f p r → Carried f q r' → r ≡ r'
  -- what comes of a plan is its `outcome`, of which JoiningMany says the rest; and every plan can be carried out, so that none of this is idle
  pub is_outcome : (p : Plan) (r : Option (List ℕ)) → Carried f p r → r ≡ outcome p
  pub carries_out : (p : Plan) → Carried f p (outcome p)
