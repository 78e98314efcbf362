-- What is printed for two code tables: the line of the answer, and after it the joined table or why there is none.
use Rattle.std.specs.Prelude.{ℕ, ◌+◌, ◌≤◌, ◌<◌, cond, List, ◌++◌, ltb, eqb, length, replicate}
use Rattle.rules.specs.Answer.{refusal, bad_table}
use Rattle.rules.specs.Join.{joined, join_exit}
use Rattle.rules.specs.Listing.{answer_line, table_length, table_in, blob_in}
use Rattle.rules.specs.declared.Answer.{Answer}
use Rattle.joinwhy.specs.Why.{why}

-- "room for 65,100 bytes": the longest table fits
unfoldable pub room : List ℕ
room = replicate 65100 0

unfoldable pub join_answer : List ℕ → List ℕ → Answer
join_answer t t' = (join_exit t t' room).answer

unfoldable pub after_line_lem : List ℕ → List ℕ → Answer → List ℕ
after_line_lem t t' a = cond (eqb a.number 0) (joined t t') (why a.number t t')

unfoldable pub said : List ℕ → List ℕ → List ℕ
said t t' = answer_line (join_answer t t') ++ after_line_lem t t' (join_answer t t')

-- the input is the length of the first table in four bytes, the first table, the second; one that is too short for its length is refused as a bad table
unfoldable pub join_said : List ℕ → List ℕ
join_said input =
    cond (ltb (length input) 4) (answer_line (refusal bad_table))
    (cond (ltb (length input) (4 + table_length input)) (answer_line (refusal bad_table))
    (said (table_in input) (blob_in input)))

-- what is lent to read and to say it: more than the longest input that can be joined, and room for all that can be said
pub record Lent (space out : List ℕ) : Type 0 where
  pub reads_all : 130204 < length space
  pub says_all : 65151 ≤ length out
