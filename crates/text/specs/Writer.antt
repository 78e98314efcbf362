-- Bytes written into a list from a place on, and the place after them. What has no room is left out, so a writer needs no bound.
use Rattle.std.specs.Prelude.{◌≡◌, cond, List, [], ◌∷◌, ℕ, ◌+◌, ltb, length, set}

-- a buffer, and how far it is written
abbrev pub Buffer : Type 0
Buffer = List ℕ × ℕ

-- a byte at the place reached, where there is room
unfoldable pub push : Buffer → ℕ → Buffer
push s b = cond (ltb s.1 (length s.0)) (set s.0 s.1 b, s.1 + 1) s

unfoldable pub write : Buffer → List ℕ → Buffer
write s [] = s
write s (b ∷ bs) = write (push s b) bs

-- `text`, written into `old` from `at` on, makes it `new`, and `next` is the place after it
pub record Wrote (old : List ℕ) (at : ℕ) (text new : List ℕ) (next : ℕ) : Type 0 where
  pub is : write (old, at) text ≡ (new, next)
