-- Records taken off a room one after the other, whatever the layout: what a walk needs to know of it.
use Prim.Native.Nat.{ℕ, ◌+◌, ◌-◌, ◌≤◌}
use native.Mathlib.Omega.{arith}
use mathlib.Core.List.{List, map}
use lib.ListN.{length}
use Rattle.rules.specs.Answer.{longest}
use Rattle.rules.specs.Tree.{Node}
use Rattle.rules.specs.Reading.{Control, property_row}
use Rattle.rules.specs.declared.Property.{Property}
use Rattle.cursor.proofs.WorkLaws.{Work}
use Rattle.cursor.proofs.VisitLaws.{Visit}
use Rattle.csvrecord.specs.Parts.{tail_text}
use Rattle.csvwalk.specs.Needs.{records_left, controls_left, node_need}
use Rattle.csvwalk.proofs.NeedLaws.{needs-none, needs-more, controls-none, controls-more}

-- nothing is asked
abbrev pub Nothing : {X : Type 0} → List X → ℕ → Type 0
Nothing xs left = Unit {0}

pub records_work : {X : Type 0} (stream : List ℕ) (f : X → Property) (owner : ℕ)
    → Work (λ (x : X) left. left - (owner + length (tail_text stream (property_row (f x))))) (records_left stream f owner) (records_left stream f owner) Nothing Nothing
records_work stream f owner = record {
  none_left = λ left. omega (arith, needs-none stream owner);
  one_more = λ x xs left. omega (arith, needs-more stream owner (f x) (map f xs));
  ok-more = λ x xs left h. tt;
}

-- n were visited, and with those that are left they are few
abbrev pub FewLeft : {P : Type 0} → ℕ → List (Node P) → ℕ → Type 0
FewLeft n xs left = n + length xs ≤ longest

pub controls_work : {P : Type 0} (stream : List ℕ) (f : Node P → Control) → Visit (λ n x left. left - node_need stream f n x) (controls_left stream f) FewLeft
controls_work stream f n = record {
  none_left = λ left. omega (arith, controls-none stream n);
  one_more = λ x xs left. omega (arith, controls-more stream n (f x) (map f xs));
  ok-more = λ x xs left h. omega (arith, h);
}
