-- Wish 4 of document 02, of every call of count_blob(totals, table, stream, control_room, property_room), and of it beside read_blob.
use Rattle.std.specs.Prelude.{◌+◌, ◌≡◌, ◌↔◌}
use mathlib.Core.List.{List, [], ◌∷◌, map, Permᴰ}
use Rattle.rules.specs.Answer.{refusal}
use Rattle.rules.specs.Rows.{control_width, property_width, room}
use Rattle.rules.specs.Blob.{Exit}
use Rattle.rules.specs.Totals.{zeros, Total, at, totals_exit}
use Rattle.rules.specs.declared.Answer.{Answer}
use Rattle.rules.specs.declared.Totals.{Totals}
use Rattle.rules.specs.declared.Totalled.{Totalled}
use Rattle.claims.specs.Demand1.{Refused}
use Rattle.claims.specs.Depot as depot
use Rattle.claims.specs.Depot.{added, CountAnswer, over, unrefused, ByRows, NothingElse}
use Rattle.calls.specs.Always.{Always, OneResult, Fn, Every, Call, handed, seen}
use Rattle.calls.specs.Functions.{Blob, Count}

-- a stream with its code table and room
abbrev pub stream_of : Count → depot.Call
stream_of a = record { table = a.table; stream = a.stream; control_room = a.control_room; property_room = a.property_room }

-- ---- one call after the other
module _ {f : Fn Count Totalled} where
  -- each is lent the record that the one before left, and the first is lent t
  abbrev pub LentOn : Totals → List (Call f) → Type 0
  LentOn t [] = Unit {0}
  LentOn t (c ∷ cs) = ((handed c).totals ≡ t) × LentOn (seen c).totals cs

  -- the record that the last one left
  abbrev pub left_by : Totals → List (Call f) → Totals
  left_by t [] = t
  left_by t (c ∷ cs) = left_by (seen c).totals cs

  -- none was refused by 12
  abbrev pub NoneRefused : List (Call f) → Type 0
  NoneRefused [] = Unit {0}
  NoneRefused (c ∷ cs) = (¬ ((seen c).answer.number ≡ 12)) × NoneRefused cs

  abbrev pub streams : List (Call f) → List depot.Call
  streams cs = map (λ c. stream_of (handed c)) cs

pub record CountBlob (f : Fn Count Totalled) : Type 2 where
  pub met : Always f.function f.function.says
  -- what is seen is what the definition says: the answer with its counts, and every number of the record
  pub is_exit : Every f (λ a seen. seen ≡ totals_exit a.totals a.table a.stream a.control_room a.property_room)
  -- "12, instead of the reading's answer, where any total would pass the ceiling ..  Otherwise the call returns the reading's answer and counts"
  pub exactly : Every f (λ a seen. (x : Answer) → CountAnswer a.totals (stream_of a) x ↔ (x ≡ seen.answer))
  -- "then the record is unchanged and the counts are 0"
  pub unchanged : Every f (λ a seen. seen.answer.number ≡ 12 → seen ≡ record { answer = refusal 12; totals = a.totals })
  -- "and the record counts it"
  pub counted : Every f (λ a seen. ¬ (seen.answer.number ≡ 12) → (c : Total) → at c seen.totals ≡ at c a.totals + at c (added (stream_of a)))
  -- "from a record of zeros, after any list of streams, each with its code table and room, each total is the sum over the single readings of demand 2 that
  -- weren't refused by 12". Of any calls that the contract allows
  pub sums : (cs : List (Call f)) → LentOn zeros cs → (c : Total) → at c (left_by zeros cs) ≡ over c (unrefused zeros (streams cs))
  -- "Order of streams doesn't matter to the final record when none was refused for the ceiling.": if one order has no 12, none has
  pub any_order : (t : Totals) (cs ds : List (Call f)) → LentOn t cs → LentOn t ds → Permᴰ (streams cs) (streams ds) → NoneRefused cs → NoneRefused ds × (left_by t cs ≡ left_by t ds)
  pub one_result : OneResult f.function
  -- the contract allows a call of any words, so that what is said of several calls isn't idle
  pub allows : (a : Count) → (c : Call f) × (handed c ≡ a)

-- ---- beside read_blob: the same table and stream, and room for as many rows
pub record SameStream (a : Blob) (b : Count) : Type 0 where
  pub same_table : b.table ≡ a.table
  pub same_stream : b.stream ≡ a.stream
  pub same-controls : room control_width a.controls ≡ b.control_room
  pub same-properties : room property_width a.properties ≡ b.property_room

-- what is counted is what the rows show
pub record CountsAgree (reader : Fn Blob Exit) (count : Fn Count Totalled) : Type 0 where
  pub same_answer : (c : Call reader) (d : Call count) → SameStream (handed c) (handed d) → ¬ ((seen d).answer.number ≡ 12) → (seen d).answer ≡ (seen c).answer
  pub by_rows : (c : Call reader) (d : Call count) → SameStream (handed c) (handed d) → (seen c).answer.number ≡ 0 → ByRows (stream_of (handed d)) (seen c)
  -- "over those with 0": a stream that is refused adds its answer alone
  pub nothing_else : (c : Call reader) (d : Call count) → SameStream (handed c) (handed d) → Refused (seen c).answer → NothingElse (added (stream_of (handed d)))
