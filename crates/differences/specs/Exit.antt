-- What a caller sees, and what is listed of a stream that fits a reading.
use Rattle.std.specs.Prelude.{ℕ, ◌≡◌, cond, List, ltb, length}
use Rattle.rules.specs.Answer.{answer}
use Rattle.rules.specs.Rows.{difference_width, room, written}
use Rattle.rules.specs.Differences.{sites, differences_from, DifferencesExit}
use Rattle.rules.specs.declared.Answer.{Answer}

-- all that a caller sees of a call: its result, and the lent slice at exit
abbrev pub exited : Answer → List ℕ → DifferencesExit
exited a rows = record { answer = a; rows = rows }

-- rows in the room that there is, where the reading has m properties
abbrev pub fit_exit : List (List ℕ) → ℕ → List ℕ → DifferencesExit
fit_exit those m rows = cond (ltb (room difference_width rows) (length those)) (exited (answer 6 (length those) m 0) rows) (exited (answer 0 (length those) m 0) (written those rows))

abbrev pub Fits : (older newer s rows : List ℕ) → ℕ → Answer → List ℕ → Type 0
Fits older newer s rows m a rows' = exited a rows' ≡ fit_exit (differences_from older newer s 0 (sites s)) m rows
