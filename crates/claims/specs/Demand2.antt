-- Demand 2. With a well-formed code table and room enough, an Access 2000 stream is accepted exactly when its bytes from offset 10 are one
-- property run and then one entry list, nothing left over, no entry deeper than level 255.
use Rattle.std.specs.Prelude.{ℕ, ◌+◌, ◌≤◌, ◌≡◌, true, List, ◌↔◌, ◌⊎◌, length, drop}
use Rattle.std.proofs.Math.Option.{some}
use Rattle.rules.specs.Bytes.{Bytes}
use Rattle.rules.specs.Answer.{longest}
use Rattle.rules.specs.CodeTable.{well_formed_lem}
use Rattle.rules.specs.Rows.{control_width, property_width, room}
use Rattle.rules.specs.Blob.{is2000, exit}
use Rattle.rules.specs.declared.Answer.{Answer}
use Rattle.claims.specs.Grammar.{Stream, ◌spells◌}
use Rattle.claims.specs.Contents.{contents}
use Rattle.claims.specs.Shown.{items_in, properties_in, shown}

-- a well-formed code table, and an Access 2000 stream: its first byte is the table's layout byte. (The customer's sentence doesn't speak of the length. Document 01
-- does: a stream over 16,777,216 bytes is answered 5, whatever it spells, and so `not-long` stands here.)
pub record Given (table stream : List ℕ) : Type 0 where
  pub formed : well_formed_lem table ≡ true
  pub old-layout : is2000 table stream ≡ true
  pub not_long : length stream ≤ longest

-- the bytes from offset 10 spell some run and list with no entry deeper than level 255
abbrev pub Spelled : List ℕ → Type 0
Spelled stream = (t : Stream) × (drop 10 stream spells t)

-- room for what the stream spells, if it spells anything: the reported items with all below them; their properties and the object's
abbrev pub Enough : List ℕ → ℕ → ℕ → Type 0
Enough stream control_room property_room =
    (t : Stream) → drop 10 stream spells t → (items_in (shown t.list) ≤ control_room) × (length t.own + properties_in (shown t.list) ≤ property_room)

-- the answer a for any room
pub record Judges (table stream : List ℕ) (a : Answer) : Type 0 where
  -- answer 4 exactly when the bytes spell nothing
  pub refused : (a.number ≡ 4) ↔ (¬ Spelled stream)
  -- and one of 0, 6 and 7 exactly when they spell something
  pub taken : ((a.number ≡ 0) ⊎ ((a.number ≡ 6) ⊎ (a.number ≡ 7))) ↔ Spelled stream
  -- the counts are then those of what is spelled: first the reported items with all below them, second their properties and the object's, third the object's
  pub counts : (t : Stream) → drop 10 stream spells t
      → (a.first ≡ items_in (shown t.list)) × (a.second ≡ length t.own + properties_in (shown t.list)) × (a.third ≡ length t.own)

-- of a list of bytes, which every stream that is lent to a call is: `Calls.antt` says it of calls without asking that
pub record Demand2 : Type 0 where
  -- with room enough, answer 0 exactly when the bytes are spelled so. (Wish 1 of document 02: "Room for controls is then the lent length divided by eight.")
  pub accepted : (table stream controls properties : List ℕ) → Bytes stream → Given table stream
      → Enough stream (room control_width controls) (room property_width properties)
      → ((exit table stream controls properties).answer.number ≡ 0) ↔ Spelled stream
  -- and what is answered for any room
  pub judges : (table stream controls properties : List ℕ) → Bytes stream → Given table stream → Judges table stream (exit table stream controls properties).answer
  -- a stream is read as what its bytes spell
  pub read_as : (stream : List ℕ) → Bytes stream → (t : Stream) → (contents stream ≡ some t) ↔ (drop 10 stream spells t)
  -- bytes spell one tree at most
  pub spelled_once : (a : List ℕ) (t u : Stream) → a spells t → a spells u → t ≡ u
