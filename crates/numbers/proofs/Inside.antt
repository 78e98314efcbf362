-- Where `u16_if_inside` answers a number, its two bytes are there.
use Prim.Native.Nat.{ℕ, ◌+◌, ◌<◌}
use mathlib.Core.Path.{◌≡◌}
use mathlib.Core.List.{List}
use lib.ListN.{length}
use lib.Dec.{ltb}
use borrow.Author.Tests.{ltb-true}
use Rattle.std.proofs.Common.{Option, Some}
use Rattle.rules.specs.Bytes.{byte_at, half_at_lem}
use Rattle.rules.specs.Told.{told}
use Rattle.rules.proofs.ListLaws.{Every, every_if, every_then, every_when, every_at}
use Rattle.rules.proofs.ToldLaws.{told_some}

byte-within : (s : List ℕ) (p : ℕ) → Every (λ _. p < length s) (byte_at s p)
unfolding byte_at
byte-within s p = every_if (λ _. p < length s) (ltb p (length s)) _ _ (λ t. ltb-true _ _ t) λ _. tt

half-within : (s : List ℕ) (p : ℕ) → Every (λ _. p + 1 < length s) (half_at_lem s p)
unfolding half_at_lem
half-within s p =
    every_when (λ _. p + 1 < length s) (byte_at s p) _ λ lo _.
    every_then (λ _. p + 1 < length s) (λ _. p + 1 < length s) (byte_at s (p + 1)) _ (byte-within s (p + 1)) λ hi h. h

pub inside-room : (s : List ℕ) (p : ℕ) (r : Option ℕ) (n : ℕ) → r ≡ told (half_at_lem s p) → r ≡ Some n → p + 1 < length s
inside-room s p r n e k = every_at (λ _. p + 1 < length s) (half_at_lem s p) n (half-within s p) (told_some (half_at_lem s p) r e k)
