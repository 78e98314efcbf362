-- A row tried: the rule that it breaks, if any.
use Rattle.std.specs.Prelude.{ℕ, ◌+◌, ◌≡◌, List, Result, Ok, Err}
use Rattle.panel.specs.ByRows.{rule_of}
use Rattle.panel.specs.Marks.{Marked}
use Rattle.panel.specs.declared.Rule.{Rule}
use Rattle.panel.specs.declared.Rule.TheVariants.{NoTypeName, OtherName, SameName, NoSource, BadPlace, TooDeep}

abbrev pub rule_number : Rule → ℕ
rule_number NoTypeName = 1
rule_number OtherName = 2
rule_number SameName = 3
rule_number NoSource = 4
rule_number BadPlace = 5
rule_number TooDeep = 6

abbrev pub broken_number : Result (Unit {0}) Rule → ℕ
broken_number (Ok u) = 0
broken_number (Err rule) = rule_number rule

-- row i tried: the rule that it breaks; where there is none, its name is marked too
pub record Tried (s cs ps : List ℕ) (i : ℕ) (marks : List ℕ) (r : Result (Unit {0}) Rule) : Type 0 where
  pub told : broken_number r ≡ rule_of s cs ps i
  pub marked : broken_number r ≡ 0 → Marked s cs (i + 1) marks
