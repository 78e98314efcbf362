-- What the look-ups by hints ask.
use Rattle.std.specs.Prelude.{ℕ, ◌+◌, ◌*◌, ◌^◌, ◌<◌}

-- how many hints are kept, as the code's HINTS says
abbrev pub slots : ℕ
slots = 4352

-- the rows start early enough, and the id is a byte
pub record RowAsked (start id : ℕ) : Type 0 where
  pub start_small : start < 2 ^ 60
  pub id-small : id < 256

-- a hint's place, and n rows that end early enough
pub record RowsAsked (slot start n : ℕ) : Type 0 where
  pub a_slot : slot < slots
  pub rows-small : start + 4 * n < 2 ^ 60
