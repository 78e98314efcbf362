-- What a Blob of either layout is read into: entries that may hold entries. The code table has no part in it.
-- P is what a layout knows of a property as stored.
use Rattle.std.specs.Prelude.{ℕ, zero, suc, ◌+◌, Bool, true, cond, ◌&&◌, List, [], ◌∷◌, ◌++◌, leb, length}
use Rattle.std.proofs.Math.Option.{Option, none, some}
use Rattle.rules.specs.Lists.{◌>>=◌}

-- an entry has a type, properties and, where it is a `parent`, a list of entries
mutual
  pub data Entry (P : Type 0) : Type 0 where
    plain : ℕ → List P → Entry P
    parent : ℕ → List P → Entries P → Entry P

  pub data Entries (P : Type 0) : Type 0 where
    end : Entries P
    more : Entry P → Entries P → Entries P

-- ---- reading entries. A reader is given a place; it answers what it read and the place behind it, or `none`
-- n entries one after the other, each read by `one`
unfoldable pub many_at : {P : Type 0} → (ℕ → Option (Entry P × ℕ)) → ℕ → ℕ → Option (Entries P × ℕ)
many_at one zero p = some (end, p)
many_at one (suc n) p = do
  (e, q) ← one p
  (es, q') ← many_at one n q
  some (more e es, q')

-- n entries, where d levels are left: with none left there may be no entry. `one` is told how the entries below are read
unfoldable pub levels_at : {P : Type 0} → ((ℕ → ℕ → Option (Entries P × ℕ)) → ℕ → Option (Entry P × ℕ)) → ℕ → ℕ → ℕ → Option (Entries P × ℕ)
levels_at one zero zero p = some (end, p)
levels_at one zero (suc n) p = none
levels_at one (suc d) n p = many_at (one (levels_at one d)) n p

-- "an entry at level 256 refuses the stream"; "no node at depth 256 (the top is 0)"
abbrev pub levels : ℕ
levels = 256

-- ---- what is reported, in output order
-- an entry without its list. Wish 1 of document 02: "the level below the reported top entry (0 for it) and the row number of the parent, 0xFFFFFFFF at
-- level 0"
pub record Node (P : Type 0) : Type 0 where
  pub type : ℕ
  pub props : List P
  pub level : ℕ
  pub parent : ℕ

abbrev pub no_parent : ℕ
no_parent = 0xFFFFFFFF

abbrev pub node_in : {P : Type 0} → ℕ → ℕ → ℕ → List P → Node P
node_in level up t ps = record { type = t; props = ps; level = level; parent = up }

abbrev pub is_section : ℕ → Bool
is_section type = leb 0x98 type && leb type 0x9E

-- "top entries with type 0x98 to 0x9E, or with a list"
abbrev pub is_reported : {P : Type 0} → Entry P → Bool
is_reported (plain t ps) = is_section t
is_reported (parent t ps es) = true

unfoldable pub reported : {P : Type 0} → Entries P → Entries P
reported end = end
reported (more e es) = cond (is_reported e) (more e (reported es)) (reported es)

-- "then descendants in preorder": at this level, below the entry of row `up`; the first of them has row n
unfoldable mutual
  pub preorder1 : {P : Type 0} → ℕ → ℕ → ℕ → Entry P → List (Node P)
  preorder1 level up n (plain t ps) = node_in level up t ps ∷ []
  preorder1 level up n (parent t ps es) = node_in level up t ps ∷ preorder (suc level) n (suc n) es

  pub preorder : {P : Type 0} → ℕ → ℕ → ℕ → Entries P → List (Node P)
  preorder level up n end = []
  preorder level up n (more e es) =
      let these = preorder1 level up n e in
      these ++ preorder level up (n + length these) es

unfoldable pub nodes_of : {P : Type 0} → Entries P → List (Node P)
nodes_of es = preorder 0 no_parent 0 (reported es)
