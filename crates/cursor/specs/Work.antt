-- What comes of things that a walk goes over one after the other, where it keeps a running value.
use Rattle.std.specs.Prelude.{ℕ, ◌≡◌, List}
use Rattle.std.proofs.Math.Option.{Option}
use Rattle.rows.specs.Acts.{Held}

-- `all` is what the things that were read make of a value; `next` is the place after them
pub record RanOf {X A : Type 0} (all : List X → A → A) (old now : A) (next : ℕ) (x : List X × ℕ) : Type 0 where
  pub is : now ≡ all x.0 old
  pub next-is : next ≡ x.1

pub record Ran {X A : Type 0} (all : List X → A → A) (o : Option (List X × ℕ)) (old now : A) (next : ℕ) : Type 0 where
  pub held : Held (RanOf all old now next) o
