-- What a program leaves in the buffer that it prints.
use Rattle.std.specs.Prelude.{ℕ, ◌≤◌, List, length}
use Rattle.text.specs.Writer.{Wrote}

-- a text written from the start of a buffer on, and no longer than `most`
pub record Written (old text : List ℕ) (most : ℕ) (new : List ℕ) (end : ℕ) : Type 0 where
  pub wrote : Wrote old 0 text new end
  pub short : length text ≤ most
