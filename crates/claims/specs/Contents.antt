-- What an Access 2000 stream is read as, in the grammar's terms: each value is given by its bytes instead of by start and length. (`stream_of` reads; `Prop` and
-- `Entry` are what it reads. Where the values stand is checked in RowChecks.)
use Rattle.std.specs.Prelude.{ℕ, List, [], ◌∷◌}
use Rattle.std.proofs.Math.Option.{Option, some}
use Rattle.rules.specs.Lists.{◌>>=◌}
use Rattle.rules.specs.Bytes.{part}
use Rattle.rules.specs.Tree.{Entry, plain, parent, Entries, end, more}
use Rattle.rules.specs.Access2000.{Prop, stream_of}
use Rattle.claims.specs.Grammar.{Property, Item, leaf, branch, Items, one, Stream}

module _ (s : List ℕ) where
  abbrev pub property : Prop → Property
  property q = record { id = q.id; value = part s q.start q.size }

  abbrev pub run : List Prop → List Property
  run [] = []
  run (q ∷ qs) = property q ∷ run qs

  abbrev mutual
    pub item : Entry Prop → Item
    item (plain t qs) = leaf t (run qs)
    item (parent t qs es) = branch t (run qs) (items es)

    pub items : Entries Prop → Items
    items end = Items.none
    items (more e es) = one (item e) (items es)

  abbrev pub stream : List Prop × Entries Prop → Stream
  stream x = record { own = run x.0; list = items x.1 }

-- what the stream s is read as
abbrev pub contents : List ℕ → Option Stream
contents s = stream_of s >>= λ x. some (stream s x)
