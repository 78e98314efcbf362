-- What was made of a text in room for any table.
use Rattle.std.specs.Prelude.{ℕ, ◌≤◌, ◌≡◌, Result, MatchResult, List, ◌++◌, length, take}
use Rattle.tablelines.specs.Faults.{number_lem}
use Rattle.tablemaking.specs.declared.Refusal.{Refusal}
use Rattle.tablewhy.specs.Why.{size_text, why_text}
use Rattle.tablemake.specs.Printed.{printed}

-- its table, at the buffer's start: what is printed is its size and its bytes
pub record TableMade (s new : List ℕ) (size : ℕ) : Type 0 where
  pub size-fits : size ≤ length new
  pub small : size ≤ 65100
  pub said : size_text size ++ take size new ≡ printed s

-- none: what is printed is why
pub record TextRefused (s : List ℕ) (refusal : Refusal) : Type 0 where
  pub said : why_text (number_lem refusal.fault) refusal.line ≡ printed s

-- one of these
abbrev pub Makes : List ℕ → List ℕ → Result ℕ Refusal → Type 0
Makes s new r = MatchResult r (λ size. TableMade s new size) (λ refusal. TextRefused s refusal)
