-- Wish 13 of document 02: one spelling for the archive. "Add a rewriter that keeps the ten leading bytes (the first isn't judged), the entries that aren't
-- reported, all types and values, and uses the one-byte length up to 254 and 0xFE for one entry."
-- The stream is read as a tree, without a code table, and the tree is written anew; the values' bytes are taken out of the stream s.
use Rattle.std.specs.Prelude.{ℕ, ◌+◌, cond, List, [], ◌∷◌, ◌++◌, map, ltb, leb, eqb, length, take}
use Rattle.std.proofs.Math.Option.{Option, none, some}
use Rattle.rules.specs.Lists.{◌>>=◌, concat}
use Rattle.rules.specs.Answer.{no_reading, too_long_lem, longest}
use Rattle.rules.specs.Texts.{TextExit, text_exit, refuse}
use Rattle.rules.specs.Bytes.{two_bytes_lem}
use Rattle.rules.specs.Tree.{Entry, plain, parent, Entries, end, more}
use Rattle.rules.specs.Access2000.{Prop, stream_of}
use Rattle.rules.specs.Read2000.{bytes_of}

-- ---- the bytes of each part
-- "the one-byte length up to 254"; a longer one is 0xFF and two bytes
unfoldable pub length_bytes : ℕ → List ℕ
length_bytes n = cond (leb n 254) (n ∷ []) (0xFF ∷ two_bytes_lem n)

-- the value v of an id up to 0xBC is its bytes alone; of a higher id, a length and its bytes
unfoldable pub value_bytes : ℕ → List ℕ → List ℕ
value_bytes id v = cond (leb id 0xBC) v (length_bytes (length v) ++ v)

-- a property is its id and its value
unfoldable pub property_bytes : List ℕ → Prop → List ℕ
property_bytes s q = q.id ∷ value_bytes q.id (bytes_of s q)

abbrev pub run_bytes : List ℕ → List Prop → List ℕ
run_bytes s qs = concat (map (property_bytes s) qs)

-- how many entries a list has, without those below them
unfoldable pub many : Entries Prop → ℕ
many end = 0
many (more e es) = many es + 1

-- what a list begins with: "0xFE for one entry"; any other number is 0xFF and two bytes
unfoldable pub count_bytes : ℕ → List ℕ
count_bytes n = cond (eqb n 1) (0xFE ∷ []) (0xFF ∷ two_bytes_lem n)

-- an entry: its type, its run, then 0xFD where it has no list, or a list
unfoldable mutual
  pub entry_bytes : List ℕ → Entry Prop → List ℕ
  entry_bytes s (plain type qs) = two_bytes_lem type ++ (run_bytes s qs ++ (0xFD ∷ []))
  entry_bytes s (parent type qs es) = two_bytes_lem type ++ (run_bytes s qs ++ (count_bytes (many es) ++ entries_bytes s es))

  pub entries_bytes : List ℕ → Entries Prop → List ℕ
  entries_bytes s end = []
  entries_bytes s (more e es) = entry_bytes s e ++ entries_bytes s es

-- the object's run, and the top list
unfoldable pub tree_bytes : List ℕ → List Prop × Entries Prop → List ℕ
tree_bytes s x = run_bytes s x.0 ++ (count_bytes (many x.1) ++ entries_bytes s x.1)

-- ---- the whole stream, where it fits a reading
unfoldable pub rewritten : List ℕ → Option (List ℕ)
rewritten s = stream_of s >>= λ x. some (take 10 s ++ tree_bytes s x)

abbrev pub rewrite_by : Option (List ℕ) → List ℕ → TextExit
rewrite_by none out = refuse no_reading out
rewrite_by (some r) out = text_exit r out

-- "Refusals: 5, 4, then 9." On 0 the length written is the first count, then 0 and 0; bytes beyond stay
unfoldable pub rewrite_exit : List ℕ → List ℕ → TextExit
rewrite_exit s out =
    cond (ltb longest (length s)) (refuse too_long_lem out)  -- 5
    (rewrite_by (rewritten s) out)  -- 4; 9, or written
