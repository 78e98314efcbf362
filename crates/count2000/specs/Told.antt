-- What the counting functions answer for what the definitions say.
use Rattle.std.specs.Prelude.{ℕ, ◌+◌, ◌≡◌, List, length}
use Rattle.std.specs.Prelude as code
use Rattle.rules.specs.Tree.{Entry, Entries, is_reported, reported}
use Rattle.rules.specs.Access2000.{Prop, entry_at, entries_at}
use Rattle.rules.specs.Told.{told_as}
use Rattle.rows.specs.Counting.{size1, size, props1, props, tally_record, tally}
use Rattle.rows.specs.declared.Tally.{Tally}
use Rattle.count2000.specs.declared.EntryTally.{EntryTally}
use Rattle.count2000.specs.declared.StreamTally.{StreamTally}

abbrev pub entry_tally : Entry Prop × ℕ → EntryTally
entry_tally x = record { kept = is_reported x.0; tally = tally_record (size1 x.0) (props1 x.0) x.1 }

abbrev pub stream_tally : List Prop × Entries Prop → StreamTally
stream_tally x = record { controls = size (reported x.1); props = length x.0 + props (reported x.1); own = length x.0 }

-- an entry with so many levels left below it, and a list with so many left
pub record EntryRead (s : List ℕ) (at left : ℕ) (r : code.Option EntryTally) : Type 0 where
  pub is : r ≡ told_as entry_tally (entry_at s (entries_at left s) at)

pub record ListRead (s : List ℕ) (at n left : ℕ) (r : code.Option Tally) : Type 0 where
  pub is : r ≡ tally (entries_at left s n at)
