-- What is printed is the listing of all that standard input had.
use mathlib.Core.Path.{◌≡◌, refl, sym, ◌∙◌}
use mathlib.Core.Bool.{Bool, true}
use mathlib.Core.List.{List, ◌∷◌, ◌++◌}
use Prim.Native.Nat.{ℕ, ◌≤◌}
use native.Mathlib.Omega.{arith}
use lib.ListN.{length, take, length-append}
use Rattle.rules.specs.NameTables.{text_names, number_names, bytes_names, control_type_names}
use Rattle.rules.specs.Listing.{listing}
use Rattle.listing.specs.Bound.{longest_in, longest_type, longest_name, longest_listing}
use Rattle.listing.specs.Written.{Written}
use Rattle.listing.proofs.Placed.{held_whole}
use Rattle.listing.proofs.Printed.{listing-long}
use Rattle.bloblines.specs.Listed.{listed}
use Rattle.inputs.specs.Begun.{Begun, whole, longer}

-- the bound, computed from the name tables
pub bound : longest_listing ≡ 120627
unfolding longest_listing longest_type longest_name longest_in text_names number_names bytes_names control_type_names
bound = refl

-- what was read is enough to tell the listing: where more came, 32,768 bytes were read
listed-is : {read input : List ℕ} {more : Bool} → (more ≡ true → 32768 ≤ length read) → Begun read more input → listed read more ≡ listing input
unfolding listed
listed-is h whole = refl
listed-is h (longer {read} b rest) = sym (listing-long (read ++ (b ∷ rest)) (simp length-append (omega (arith, h refl))))

pub all-printed : {read old new : List ℕ} {more : Bool} {end : ℕ} → Written old (listed read more) longest_listing new end → longest_listing ≤ length old
    → (more ≡ true → 32768 ≤ length read) → (input : List ℕ) → Begun read more input → take end new ≡ listing input
all-printed w room h input b = held_whole w room ∙ listed-is h b
