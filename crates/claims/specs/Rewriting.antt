-- Wish 13 of document 02. One spelling for the archive. "Access 2000 streams that read alike may differ in bytes, since a short length may be written with 0xFF
-- and a single entry with 0xFF 01 00."
use Rattle.std.specs.Prelude.{ℕ, ◌≤◌, ◌<◌, ◌≡◌, List, [], ◌∷◌, ◌++◌, ◌↔◌, length, take, drop, replicate}
use Rattle.std.proofs.Math.Option.{none, some}
use Rattle.rules.specs.Bytes.{Bytes, part}
use Rattle.rules.specs.Answer.{answer, refusal}
use Rattle.rules.specs.Access2000.{stream_of}
use Rattle.rules.specs.Rows.{control_width, property_width}
use Rattle.rules.specs.Blob.{Exit, exit}
use Rattle.rules.specs.Join.{result}
use Rattle.rules.specs.Rewrite.{rewritten, rewrite_exit}
use Rattle.rules.specs.declared.Answer.{Answer}
use Rattle.claims.specs.Demand1.{Texts}
use Rattle.claims.specs.Grammar.{Stream, ◌spells◌}
use Rattle.claims.specs.Demand2.{Given, Spelled}
use Rattle.claims.specs.Demand3.{Lent, SameRoom, exit_of2000, exit_of}
use Rattle.claims.specs.RowChecks.{control_word, name_mark, name_start, name_length, property_word, value_start, value_length}
use Rattle.claims.specs.Rooms.{bare}

-- ---- the answers. "Refusals: 5, 4, then 9."
pub data RewriteAnswer (stream out : List ℕ) : Answer → Type 0 where
  -- stream over 16,777,216 bytes
  five : 16777216 < length stream → RewriteAnswer stream out (refusal 5)
  -- it fits no reading
  four : length stream ≤ 16777216 → stream_of stream ≡ none → RewriteAnswer stream out (refusal 4)
  -- the rewritten stream r doesn't fit the buffer
  nine : length stream ≤ 16777216 → {r : List ℕ} → rewritten stream ≡ some r → length out < length r → RewriteAnswer stream out (refusal 9)
  -- the length written
  zero : length stream ≤ 16777216 → {r : List ℕ} → rewritten stream ≡ some r → length r ≤ length out → RewriteAnswer stream out (answer 0 (length r) 0 0)

-- ---- "under any well-formed code table with its layout byte it gives the same rows but for value and name starts, and the named bytes are the same". What is seen
-- of a stream s and of its rewritten stream r, with the same table and room
-- property row j: each word but word 4, the start, and the bytes that start and length name
pub record SameProperty (s r : List ℕ) (seen seen' : Exit) (j : ℕ) : Type 0 where
  pub but_start : (w : ℕ) → w < property_width → ¬ (w ≡ 4) → property_word w seen j ≡ property_word w seen' j
  pub named : part s (value_start seen j) (value_length seen j) ≡ part r (value_start seen' j) (value_length seen' j)

-- control row i: each word but word 2, the name's start, which is the same where the name is numbered; elsewhere the bytes of the name
pub record SameControl (s r : List ℕ) (seen seen' : Exit) (i : ℕ) : Type 0 where
  pub but_start : (w : ℕ) → w < control_width → ¬ (w ≡ 2) → control_word w seen i ≡ control_word w seen' i
  pub numbered : name_mark seen i ≡ 1 → name_start seen i ≡ name_start seen' i
  pub named : ¬ (name_mark seen i ≡ 1) → part s (name_start seen i) (name_length seen i) ≡ part r (name_start seen' i) (name_length seen' i)

pub record SameRows (s r : List ℕ) (seen seen' : Exit) : Type 0 where
  -- the same number and counts, whatever the room
  pub answer : seen.answer ≡ seen'.answer
  -- on answer 0
  pub controls : seen.answer.number ≡ 0 → (i : ℕ) → i < seen.answer.first → SameControl s r seen seen' i
  pub properties : seen.answer.number ≡ 0 → (j : ℕ) → j < seen.answer.second → SameProperty s r seen seen' j

-- a table that speaks for s speaks for r; by the reader of the layout, and by the one that chooses
pub record SameReading (table s r : List ℕ) : Type 0 where
  pub given : Given table r
  pub by_2000 : (lent lent' : Lent) → SameRoom lent lent' → SameRows s r (exit_of2000 table s lent) (exit_of2000 table r lent')
  pub chosen : (lent lent' : Lent) → SameRoom lent lent' → SameRows s r (exit_of table s lent) (exit_of table r lent')

-- ---- a stream s and its rewritten stream r
pub record Rewrites (s r : List ℕ) : Type 0 where
  pub bytes : Bytes r
  -- "keeps the ten leading bytes (the first isn't judged), the entries that aren't reported, all types and values": from offset 10 on both spell the same.
  -- And so "the rewritten stream is accepted"
  pub leading : take 10 r ≡ take 10 s
  pub contents : Stream
  pub spelled : drop 10 s spells contents
  pub accepted : drop 10 r spells contents
  -- "under any well-formed code table with its layout byte it gives the same rows"
  pub same : (table : List ℕ) → Given table s → SameReading table s r
  -- "it is never longer than its input"
  pub no_longer : length r ≤ length s
  -- "rewriting it again changes nothing"
  pub again : (out : List ℕ) → length r ≤ length out → result (rewrite_exit r out) ≡ some r
  -- "no accepted stream with the same bytes 0 to 9, types, ids, value bytes and lists is shorter"
  pub shortest : (u : List ℕ) → take 10 u ≡ take 10 s → drop 10 u spells contents → length r ≤ length u

-- ---- what doesn't hold: streams with the same rows need not have one spelling. The only entry of `plain` has no list, that of `empty` has an empty one
abbrev pub plain : List ℕ
plain = (0x2A ∷ replicate 9 0) ++ (0xFE ∷ 0x98 ∷ 0x00 ∷ 0xFD ∷ [])

abbrev pub empty : List ℕ
empty = (0x2A ∷ replicate 9 0) ++ (0xFE ∷ 0x98 ∷ 0x00 ∷ 0xFF ∷ 0x00 ∷ 0x00 ∷ [])

pub record TwoSpellings : Type 0 where
  pub same_seen : exit bare plain (replicate control_width 0) [] ≡ exit bare empty (replicate control_width 0) []
  pub read : (exit bare plain (replicate control_width 0) []).answer ≡ answer 0 1 0 0
  pub plain_stays : rewritten plain ≡ some plain
  pub empty_stays : rewritten empty ≡ some empty

-- ---- all of it
pub record Wish13 : Type 0 where
  pub answers : (stream out : List ℕ) → Texts (RewriteAnswer stream out) out (rewrite_exit stream out)
  -- 4 exactly when the bytes spell nothing
  pub refused : (stream out : List ℕ) → Bytes stream → length stream ≤ 16777216 → ((rewrite_exit stream out).answer.number ≡ 4) ↔ (¬ Spelled stream)
  -- (`result` is what a caller has on answer 0: the bytes written)
  pub rewrites : (stream out r : List ℕ) → Bytes stream → result (rewrite_exit stream out) ≡ some r → Rewrites stream r
  -- bytes beyond stay
  pub beyond : (stream out r : List ℕ) → result (rewrite_exit stream out) ≡ some r → (rewrite_exit stream out).out ≡ r ++ drop (length r) out
  -- a buffer as long as the stream is enough
  pub room-enough : (stream out : List ℕ) → Bytes stream → length stream ≤ length out → ¬ ((rewrite_exit stream out).answer.number ≡ 9)
  -- "One spelling": streams with the same bytes 0 to 9, types, ids, value bytes and lists are rewritten as the same
  pub one_spelling : (s u out out' r r' : List ℕ) (t : Stream) → take 10 s ≡ take 10 u → drop 10 s spells t → drop 10 u spells t
      → result (rewrite_exit s out) ≡ some r → result (rewrite_exit u out') ≡ some r' → r ≡ r'
  -- but streams that show the same rows need not be
  pub two_spellings : TwoSpellings
