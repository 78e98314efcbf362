-- What the two loops keep, and what the answer comes to.
use Prim.Native.Nat.{ℕ, ◌+◌, ◌-◌, ◌≤◌, ◌<◌}
use native.Mathlib.Omega.{arith}
use mathlib.Core.Path.{◌≡◌, refl, sym, ap, ◌∙◌}
use mathlib.Core.Bool.{true, false}
use mathlib.Core.List.{List, [], ◌∷◌, ◌++◌}
use mathlib.Core.Option.{none, some}
use mathlib.Core.Option as maybe
use Rattle.std.proofs.Common.{Option}
use Rattle.std.specs.Option.{is_some}
use lib.ListN.{length, take, drop, length-append, length-drop}
use lib.Seq.{length-take-le}
use borrow.Author.Tests.{lt-ltb, le-ltb}
use Rattle.rules.specs.Bytes.{Bytes}
use Rattle.rules.specs.Tree.{Entries}
use Rattle.rules.specs.Answer.{longest}
use Rattle.rules.specs.Texts.{text_exit, refuse}
use Rattle.rules.specs.Access2000.{Prop, stream_of}
use Rattle.rules.specs.Rewrite.{tree_bytes, rewritten, rewrite_exit}
use Rattle.rules.specs.Told.{told_as}
use Rattle.rules.proofs.ListLaws.{every_at}
use Rattle.count2000.specs.Told as told
use Rattle.count2000.specs.declared.StreamTally.{StreamTally}
use Rattle.text.specs.Writer.{Wrote}
use Rattle.text.proofs.Remains.{Remains, all_remains, on, done}
use Rattle.rewrite.specs.declared.Piece.{Piece}
use Rattle.rewrite.specs.Pieces.{Left, Rest, ended, going, between, piece_bytes, InOrder, size_of, Goes, Spells, Accepted, body, Sized}
use Rattle.rewrite.proofs.OpeningLaws.{left-inside}
use Rattle.rewrite.proofs.Flat.{TreeLeft, stream-left}

-- ---- the whole
module _ {s : List ℕ} (small : Bytes s) (ok : Accepted s) where
  tree-left : Left s (tree_bytes s ok.tree) 10
  tree-left = every_at (TreeLeft s) (stream_of s) ok.tree (stream-left s) ok.is

  pub ten-inside : 10 < length s
  ten-inside = left-inside s small tree-left

  body-left : Left s (body s) 10
  unfolding body
  body-left = rw ok.is tree-left

-- at a place before the end a piece is left, at the end none
rest-going : {s left : List ℕ} {p : ℕ} → Rest s left p → p < length s → Left s left p
rest-going ended h = absurd (omega arith)
rest-going (going l) h = l

rest_ended : {s left : List ℕ} {p : ℕ} → Bytes s → Rest s left p → length s ≤ p → left ≡ []
rest_ended small ended h = refl
rest_ended {s} small (going l) h = absurd (omega (arith, left-inside s small l))

-- the piece x at p, of what is left there
pub turn : {s left : List ℕ} {p : ℕ} {x : Piece} → Rest s left p → p < length s → Spells s p x → Goes s left p x
turn {left = left} r h k = k.so left (rest-going r h)

between-long : (s : List ℕ) (a b : ℕ) → b ≤ length s → length (between s a b) ≡ b - a
between-long s a b h = length-take-le (b - a) (drop a s) (omega (arith, length-drop a s))

piece_long : (s : List ℕ) {p : ℕ} {x : Piece} → InOrder p x → x.next ≤ length s → length (piece_bytes s p x) ≡ size_of p x
piece_long s {p} {x} o l =
    let a = between-long s p x.keep (omega (arith, o.replaced, o.ends)) in
    let b = between-long s x.start x.next l in
    omega (arith, length-append (between s p x.keep) (x.lead ∷ between s x.start x.next))

-- ---- counting: n bytes are written for those before p
pub record Counting (s : List ℕ) (n p : ℕ) : Type 0 where
  pub left : List ℕ
  pub rest : Rest s left p
  pub sum : n + length left ≡ 10 + length (body s)
  pub few : n ≤ p
  pub within : p ≤ length s

pub count_start : {s : List ℕ} → Bytes s → Accepted s → Counting s 10 10
count_start small ok = record { left = _; rest = going (body-left small ok); sum = refl; few = omega arith; within = omega (arith, ten-inside small ok) }

module _ {s : List ℕ} {n p : ℕ} (c : Counting s n p) where
  module _ {x : Piece} (h : p < length s) (k : Spells s p x) where
    pub count_goes : Goes s c.left p x
    count_goes = turn c.rest h k

    -- no more is counted for a piece than it takes
    pub count-few : n + size_of p x ≤ x.next
    count-few = let o = count_goes.order in omega (arith, c.few, o.kept, o.replaced, o.ends)

  pub count_end : Bytes s → length s ≤ p → Sized s n
  count_end small h = record { size = omega (arith, c.sum, ap length (rest_ended small c.rest h)); few = omega (arith, c.few, c.within) }

-- ---- writing: what is left is to be written after what `new` has
pub record Writing (s old : List ℕ) (at : ℕ) (new : List ℕ) (o p : ℕ) : Type 0 where
  pub left : List ℕ
  pub rest : Rest s left p
  pub remains : Remains old at (body s) new o left

pub write_start : {s old : List ℕ} {at : ℕ} → Bytes s → Accepted s → Writing s old at old at 10
write_start small ok = record { left = _; rest = going (body-left small ok); remains = all_remains }

module _ {s old new : List ℕ} {at o p : ℕ} (c : Writing s old at new o p) where
  pub write_next : {x : Piece} {later : List ℕ} {o' : ℕ} (g : Goes s c.left p x) → Wrote new o (piece_bytes s p x) later o' → Writing s old at later o' x.next
  write_next g w = record { left = g.later; rest = g.then; remains = on c.remains g.is w }

  pub write_end : Bytes s → length s ≤ p → Wrote old at (body s) new o
  write_end small h = done c.remains (rest_ended small c.rest h)

-- ---- the answer
module _ (s out : List ℕ) where
  pub exit-long : longest < length s → rewrite_exit s out ≡ refuse 5 out
  unfolding rewrite_exit
  exit-long h = rw (lt-ltb longest (length s) h)

  pub exit_bad : length s ≤ longest → stream_of s ≡ none → rewrite_exit s out ≡ refuse 4 out
  unfolding rewrite_exit rewritten
  exit_bad h e = rw (le-ltb longest (length s) h, e)

  pub exit-text : Accepted s → rewrite_exit s out ≡ text_exit (between s 0 10 ++ body s) out
  unfolding rewrite_exit rewritten body
  exit-text ok = rw (le-ltb longest (length s) ok.not_long, ok.is)

-- what is counted is how long it is
pub size_is : (s : List ℕ) {n : ℕ} → Sized s n → n ≡ length (between s 0 10 ++ body s)
size_is s z = z.size ∙ ap (λ k. k + length (body s)) (sym (length-take-le 10 s (omega (arith, z.size, z.few)))) ∙ sym (length-append (take 10 s) (body s))

module _ (s : List ℕ) {r : Option StreamTally} (counted : r ≡ told_as told.stream_tally (stream_of s)) where
  pub none-counted : is_some r ≡ false → stream_of s ≡ none
  none-counted k = go (stream_of s) counted
    where
      go : (o : maybe.Option (List Prop × Entries Prop)) → r ≡ told_as told.stream_tally o → o ≡ none
      go none e = refl
      go (some x) e = let z : is_some r ≡ true = rw e in cc

  pub some_counted : length s ≤ longest → is_some r ≡ true → Accepted s
  some_counted h k = go (stream_of s) refl counted
    where
      go : (o : maybe.Option (List Prop × Entries Prop)) → stream_of s ≡ o → r ≡ told_as told.stream_tally o → Accepted s
      go none q e = let z : is_some r ≡ false = rw e in cc
      go (some x) q e = record { tree = x; is = q; not_long = h }
