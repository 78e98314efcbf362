-- What is said of all that standard input has, by what was read of it.
use Prim.Native.Nat.{ℕ, ◌≤◌, ◌<◌}
use native.Mathlib.Omega.{arith}
use mathlib.Core.Path.{◌≡◌, refl, sym, ap, ◌∙◌}
use mathlib.Core.List.{List, ◌++◌}
use lib.ListN.{length, take, length-append}
use lib.Seq.{take_all, take_at}
use Rattle.listing.specs.Written.{Written}
use Rattle.listing.proofs.Placed.{held_whole}
use Rattle.tabletext.specs.Input.{Began, whole, filled}

-- where the same is said of all that is longer than `most`, and there was room for more
pub told : {said : List ℕ → List ℕ} (most : ℕ) → ((s t : List ℕ) → most < length s → most < length t → said s ≡ said t)
    → {room : ℕ} {read all : List ℕ} → most < room → Began room read all → said read ≡ said all
told most long r whole = refl
told most long r (filled {read} h rest) = long read (read ++ rest) (omega arith) (omega (arith, length-append read rest))

-- where no more than the first `room` bytes count
first_read : (said : List ℕ → List ℕ) (room : ℕ) {read all : List ℕ} → length read ≤ room → Began room read all → said read ≡ said (take room all)
first_read said room {read} h whole = ap said (sym (take_all room read h))
first_read said room h (filled {read} k rest) = let e : length read ≡ room = omega arith in ap said (sym (take_at read rest room e))

-- what is printed of these, where it was written
pub first-printed : (said : List ℕ → List ℕ) {room most end : ℕ} {read text old new : List ℕ} → Written old text most new end → most ≤ length old → text ≡ said read → length read ≤ room
    → (all : List ℕ) → Began room read all → take end new ≡ said (take room all)
first-printed said {room} w fits is short all b = held_whole w fits ∙ is ∙ first_read said room short b
