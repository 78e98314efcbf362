-- What comes of a group's properties, where whoever goes over a later stream keeps a running value.
use Rattle.std.specs.Prelude.{ℕ, ◌≡◌, List}
use Rattle.rules.specs.Later.{Prop, group_at}
use Rattle.countlater.specs.Count.{group}
use Rattle.countlater.specs.declared.Group.{Group}
use Rattle.later.specs.Write.{props_at}

-- `all` is what properties make of a value
pub record Grouped {A : Type 0} (all : List Prop → A → A) (s : List ℕ) (limit at : ℕ) (old now : A) (r : Group) : Type 0 where
  pub is : now ≡ all (props_at s limit at) old
  pub group-is : r ≡ group (group_at s limit at)
