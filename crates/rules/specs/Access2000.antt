-- The Access 2000 layout as a tree. A reader is given the stream s and a place p; it answers what it read and the place behind it,
-- or `none` where the stream fits no reading.
use Rattle.std.specs.Prelude.{ℕ, zero, suc, ◌+◌, List, [], ◌∷◌, Bool, cond, ◌&&◌, ltb, leb, eqb, length}
use Rattle.std.proofs.Math.Option.{Option, none, some}
use Rattle.rules.specs.Lists.{◌>>=◌}
use Rattle.rules.specs.Bytes.{byte, byte_at, half_at_lem}
use Rattle.rules.specs.Tree.{Entry, plain, parent, Entries, levels_at, levels}

-- a property as stored: its id, and where its value's bytes stand
pub record Prop : Type 0 where
  pub id : ℕ
  pub start : ℕ
  pub size : ℕ

-- "Length byte 0xFF takes a u16; 0xFD and 0xFE mean 253 and 254.": where the bytes behind a length start, and how many there are
unfoldable pub length_at : List ℕ → ℕ → Option (ℕ × ℕ)
length_at s p = do
  n ← byte_at s p
  cond (eqb n 0xFF)
      (do
        m ← half_at_lem s (p + 1)
        some (p + 1 + 2, m))
      (some (p + 1, n))

-- "Ids to 0x2F carry 0 bytes, to 0x5F one .., to 0x7F two .., to 0xBC four .., to 0xFC a length and bytes."
unfoldable pub extent_at : List ℕ → ℕ → ℕ → Option (ℕ × ℕ)
extent_at s id p =
    cond (leb id 0x2F) (some (p, 0))
    (cond (leb id 0x5F) (some (p, 1))
    (cond (leb id 0x7F) (some (p, 2))
    (cond (leb id 0xBC) (some (p, 4))
    (length_at s p))))

-- the property at p; a value past the end fits no reading
unfoldable pub property_at : List ℕ → ℕ → Option Prop
property_at s p = do
  (start, size) ← extent_at s (byte s p) (p + 1)
  cond (leb (start + size) (length s)) (some (record { id = byte s p; start = start; size = size })) none

-- "A run ends before a byte of 0xFD or more, or at the end."
unfoldable pub goes_on_lem : List ℕ → ℕ → Bool
goes_on_lem s p = ltb p (length s) && ltb (byte s p) 0xFD

-- the run at p, of at most `most` properties
unfoldable pub run_of : ℕ → List ℕ → ℕ → Option (List Prop × ℕ)
run_of zero s p = some ([], p)
run_of (suc most) s p =
    cond (goes_on_lem s p)
    (do
      q ← property_at s p
      (qs, e) ← run_of most s (q.start + q.size)
      some (q ∷ qs, e))
    (some ([], p))

-- each property takes a byte or more, so the stream's length is enough
unfoldable pub run_at : List ℕ → ℕ → Option (List Prop × ℕ)
run_at s p = run_of (length s) s p

-- "0xFD for no list", or what a list begins with, "0xFF and u16 count, or 0xFE for one". The outer `none` means that no reading fits, the inner
-- one that there is no list; otherwise it is the number of the list's entries
unfoldable pub head_at_lem : List ℕ → ℕ → Option (Option ℕ × ℕ)
head_at_lem s p = do
  b ← byte_at s p
  cond (eqb b 0xFD) (some (none, p + 1))
      (cond (eqb b 0xFE) (some (some 1, p + 1))
      (cond (eqb b 0xFF)
      (do
        n ← half_at_lem s (p + 1)
        some (some n, p + 1 + 2))
      none))

-- an entry with its head read: its list, where it has one, is read by `below`
unfoldable pub close_at : (ℕ → ℕ → Option (Entries Prop × ℕ)) → ℕ → List Prop → Option ℕ × ℕ → Option (Entry Prop × ℕ)
close_at below type props h =
    elim h.0 [ none ↦ some (plain type props, h.1) | some n ↦ below n h.1 >>= λ l. some (parent type props l.0, l.1) ]

-- "Entry: u16 type, a run, then 0xFD for no list, or a list."
unfoldable pub entry_at : List ℕ → (ℕ → ℕ → Option (Entries Prop × ℕ)) → ℕ → Option (Entry Prop × ℕ)
entry_at s below p = do
  type ← half_at_lem s p
  (props, q) ← run_at s (p + 2)
  h ← head_at_lem s q
  close_at below type props h

-- "The top list is level 0; an entry at level 256 refuses the stream, an empty list there doesn't."
unfoldable pub entries_at : ℕ → List ℕ → ℕ → ℕ → Option (Entries Prop × ℕ)
entries_at d s n p = levels_at (entry_at s) d n p

-- the whole stream: the object's run at 10, the top list (0xFD in its place fits no reading), and no byte more
unfoldable pub stream_of : List ℕ → Option (List Prop × Entries Prop)
stream_of s = do
  (own, p) ← run_at s 10
  (list, q) ← head_at_lem s p
  n ← list
  (es, e) ← entries_at levels s n q
  cond (eqb e (length s)) (some (own, es)) none
