-- A stream that fits a reading as pieces, one after the other, and what each is written as.
use Rattle.std.specs.Prelude.{ℕ, ◌+◌, ◌-◌, ◌≤◌, ◌≡◌, true, false, List, [], ◌∷◌, ◌++◌, length}
use Rattle.std.proofs.Math.Option.{Option, none, some}
use Rattle.rules.specs.Bytes.{part, half_at_lem, two_bytes_lem}
use Rattle.rules.specs.Tree.{Entries}
use Rattle.rules.specs.Answer.{longest}
use Rattle.rules.specs.Access2000.{Prop, property_at, goes_on_lem, head_at_lem, stream_of}
use Rattle.rules.specs.Rewrite.{property_bytes, count_bytes, tree_bytes}
use Rattle.rewrite.specs.declared.Piece.{Piece}

-- what stands after a run: 0xFD, or what a list begins with
abbrev pub head_bytes : Option ℕ → List ℕ
head_bytes none = 0xFD ∷ []
head_bytes (some n) = count_bytes n

-- ---- what is left to write of a stream s up to its end: in a run at p, and after a head at p
mutual
  pub data Left (s : List ℕ) : List ℕ → ℕ → Type 0 where
    prop : {p : ℕ} {q : Prop} {rest : List ℕ} → goes_on_lem s p ≡ true → property_at s p ≡ some q → Left s rest (q.start + q.size) → Left s (property_bytes s q ++ rest) p
    head : {p e : ℕ} {list : Option ℕ} {rest : List ℕ} → goes_on_lem s p ≡ false → head_at_lem s p ≡ some (list, e) → After s rest e → Left s (head_bytes list ++ rest) p

  pub data After (s : List ℕ) : List ℕ → ℕ → Type 0 where
    stop : After s [] (length s)
    entry : {p type : ℕ} {rest : List ℕ} → half_at_lem s p ≡ some type → Left s rest (p + 2) → After s (two_bytes_lem type ++ rest) p

-- where a piece begins, or the end
pub data Rest (s : List ℕ) : List ℕ → ℕ → Type 0 where
  ended : Rest s [] (length s)
  going : {p : ℕ} {left : List ℕ} → Left s left p → Rest s left p

-- the place after an entry's type, where one follows
pub record AfterType (s : List ℕ) (at r : ℕ) : Type 0 where
  pub there : (type : ℕ) → half_at_lem s at ≡ some type → r ≡ at + 2
  pub none-there : half_at_lem s at ≡ none → r ≡ at

-- ---- a piece
-- the bytes from a up to b
abbrev pub between : List ℕ → ℕ → ℕ → List ℕ
between s a b = part s a (b - a)

-- what is written of the piece x at p
abbrev pub piece_bytes : List ℕ → ℕ → Piece → List ℕ
piece_bytes s p x = between s p x.keep ++ (x.lead ∷ between s x.start x.next)

-- it is no longer than what it is written for
pub record InOrder (p : ℕ) (x : Piece) : Type 0 where
  pub kept : p ≤ x.keep
  pub replaced : x.keep + 1 ≤ x.start
  pub ends : x.start ≤ x.next

abbrev pub size_of : ℕ → Piece → ℕ
size_of p x = x.keep - p + 1 + (x.next - x.start)

-- x is the piece at p, where `left` is left to write
pub record Goes (s left : List ℕ) (p : ℕ) (x : Piece) : Type 0 where
  pub order : InOrder p x
  pub inside : x.next ≤ length s
  pub later : List ℕ
  pub is : left ≡ piece_bytes s p x ++ later
  pub then : Rest s later x.next

pub record Spells (s : List ℕ) (p : ℕ) (x : Piece) : Type 0 where
  pub so : (left : List ℕ) → Left s left p → Goes s left p x

-- ---- the whole stream
pub record Accepted (s : List ℕ) : Type 0 where
  pub tree : List Prop × Entries Prop
  pub is : stream_of s ≡ some tree
  pub not_long : length s ≤ longest

-- what is written of it after its ten leading bytes
abbrev pub body_of : List ℕ → Option (List Prop × Entries Prop) → List ℕ
body_of s none = []
body_of s (some x) = tree_bytes s x

unfoldable pub body : List ℕ → List ℕ
body s = body_of s (stream_of s)

pub record Sized (s : List ℕ) (n : ℕ) : Type 0 where
  pub size : n ≡ 10 + length (body s)
  pub few : n ≤ length s
