-- The search for matches: what each function answers.
use Rattle.std.specs.Prelude.{ℕ, zero, suc, ◌≤◌, ◌<◌, ◌+◌, ◌≡◌, Bool, true, not, ◌&&◌, List, eqb, length}
use Rattle.rules.specs.Bytes.{byte}
use Rattle.rules.specs.Later.{match_at, matches_from}

-- not both the first and the third byte of a match
abbrev pub ruled_out : ℕ → ℕ → Bool
ruled_out first third = not (eqb first 0x14 && eqb third 0x0A)

-- so at each of n places from p on
unfoldable pub none_of_lem : ℕ → List ℕ → ℕ → Bool
none_of_lem zero s p = true
none_of_lem (suc n) s p = none_of_lem n s p && ruled_out (byte s (p + n)) (byte s (p + n + 2))

-- no match is found from p on before r, which is at most stop
pub record Leapt (s : List ℕ) (p stop r : ℕ) : Type 0 where
  pub same : matches_from s p ≡ matches_from s r
  pub behind : p ≤ r
  pub within : r ≤ stop

-- the places from p on before stop, and the two bytes after each
pub record Stretch (s : List ℕ) (p stop : ℕ) : Type 0 where
  pub ordered : p ≤ stop
  pub room : stop + 2 ≤ length s

-- r is the first match from p on before stop, or stop
pub record MatchBefore (s : List ℕ) (p stop r : ℕ) : Type 0 where
  pub same : matches_from s p ≡ matches_from s r
  pub behind : p ≤ r
  pub within : r ≤ stop
  pub here : r < stop → match_at s r ≡ true

-- r is the first match from p on, or the end
pub record NextMatch (s : List ℕ) (p r : ℕ) : Type 0 where
  pub same : matches_from s p ≡ matches_from s r
  pub behind : p ≤ r
  pub within : r ≤ length s
  pub here : r < length s → match_at s r ≡ true
