-- The listing of document 01's program is that of any Blob with its code table, in the program's room.
use mathlib.Core.Path.{◌≡◌}
use mathlib.Core.Bool.{Bool, true, false}
use mathlib.Core.List.{List}
use Prim.Native.Nat.{ℕ, ◌≤◌, ◌<◌}
use native.Mathlib.Omega.{arith}
use borrow.Author.Tests.{le-ltb}
use lib.ListN.{length, length-drop}
use Rattle.rules.specs.Answer.{refusal}
use Rattle.rules.specs.Listing.{answer_line, blob_in, listing}
use Rattle.text.specs.Writer.{Wrote}
use Rattle.listing.proofs.Printed.{listing-long}
use Rattle.listing.specs.Written.{Written}
use Rattle.listing.specs.Bound.{longest_lines, longest_listing}
use Rattle.bloblines.specs.Blobs.{longest_blob, blob_listed}
use Rattle.bloblines.specs.Listed.{listed}
use Rattle.bloblines.proofs.InputLaws.{refusal-short}

-- in room for 256 controls and 1,024 properties; so short an input has no Blob that is too long
listing-is : (input : List ℕ) → length input ≤ 32768 → listing input ≡ blob_listed input 256 1024
unfolding listing blob_listed
listing-is input fits =
    let k : length (blob_in input) ≤ longest_blob = simp length-drop (omega arith) in
    rw (le-ltb 32768 (length input) fits, le-ltb longest_blob (length (blob_in input)) k)

module _ (input : List ℕ) (more : Bool) {o n : List ℕ} {e : ℕ} where
  refused-written : listed input more ≡ answer_line (refusal 5) → Wrote o 0 (answer_line (refusal 5)) n e → Written o (listed input more) longest_listing n e
  unfolding longest_listing
  refused-written q w = record { wrote = rw q w; short = rw q (omega (arith, refusal-short 5 (omega arith))) }

  pub more-written : more ≡ true → Wrote o 0 (answer_line (refusal 5)) n e → Written o (listed input more) longest_listing n e
  unfolding listed
  more-written k w = refused-written (rw k) w

  module _ (k : more ≡ false) where
    pub long-written : 32768 < length input → Wrote o 0 (answer_line (refusal 5)) n e → Written o (listed input more) longest_listing n e
    unfolding listed
    long-written h w = refused-written (rw k (listing-long input h)) w

    pub listed-written : length input ≤ 32768 → (c p : ℕ) → c ≡ 256 → p ≡ 1024 → Written o (blob_listed input c p) (longest_lines c p) n e
        → Written o (listed input more) longest_listing n e
    unfolding listed longest_listing
    listed-written fits c p a b w =
        let q = listing-is input fits in
        let v : Written o (blob_listed input 256 1024) (longest_lines 256 1024) n e = rw (a, b) at w in
        record { wrote = rw (k, q) v.wrote; short = rw (k, q) v.short }
