-- All that standard input had, by what was read of it and whether more came.
use mathlib.Core.Path.{◌≡◌, refl, sym, ap, ◌∙◌}
use mathlib.Core.Bool.{Bool, true, false}
use mathlib.Core.List.{List}
use Prim.Native.Nat.{ℕ, ◌+◌, ◌≤◌, ◌<◌}
use native.Mathlib.Omega.{arith}
use borrow.Rule.Slice.PartMut.{put_mid, take_put}
use lib.ListN.{length, take, length-append}
use Rattle.rules.specs.Answer.{refusal, too_long_lem}
use Rattle.rules.specs.Listing.{answer_line}
use Rattle.text.specs.Writer.{Wrote}
use Rattle.text.proofs.Written.{next}
use Rattle.listing.specs.Written.{Written}
use Rattle.listing.proofs.Placed.{within, held, held_whole}
use Rattle.listing.proofs.Longest.{answer-short}
use Rattle.inputs.specs.Begun.{Begun, whole, longer}
use Rattle.inputs.specs.Filled.{Filled}

pub all_read : {read input : List ℕ} {more : Bool} → Begun read more input → more ≡ false → read ≡ input
all_read whole e = refl
all_read (longer b rest) e = let z : ◌≡◌ {A = ℕ} 0 1 = cc in absurd (omega arith)

pub more_came : {read input : List ℕ} {more : Bool} → Begun read more input → more ≡ true → length read < length input
more_came whole e = let z : ◌≡◌ {A = ℕ} 0 1 = cc in absurd (omega arith)
more_came (longer {read} b rest) e = simp length-append (omega arith)

-- what is printed of an input that was read whole, where its listing was written
pub all-printed : (listing : List ℕ → List ℕ) {read text old new : List ℕ} {most end : ℕ} → Written old text most new end → most ≤ length old → text ≡ listing read
    → (input : List ℕ) → Begun read false input → take end new ≡ listing input
all-printed listing w room is input b = held_whole w room ∙ is ∙ ap listing (all_read b refl)

-- what is printed of an input that has more than so many bytes, where its listing is the refusal of that
pub refusal-printed : {most : ℕ} {listing : List ℕ → List ℕ} → ((input : List ℕ) → most < length input → listing input ≡ answer_line (refusal too_long_lem))
    → {read old new : List ℕ} {end : ℕ} → Wrote old 0 (answer_line (refusal too_long_lem)) new end → 64 ≤ length old → most ≤ length read
    → (input : List ℕ) → Begun read true input → take end new ≡ listing input
refusal-printed refuses w h l input b =
    held w (omega (arith, answer-short (refusal too_long_lem) (omega arith) (omega arith) (omega arith) (omega arith)))
    ∙ sym (refuses input (omega (arith, more_came b refl)))

-- what was read is written first, and what comes is put after it
module _ {read old new : List ℕ} {e : ℕ} (w : Wrote old 0 read new e) (k : ℕ) (ys : List ℕ) where
  ends : length read ≤ length old → length read ≡ e
  ends h = let q : 0 + length read ≤ length old = omega arith in omega (arith, next w q)

  pub filled : (n : ℕ) → e + n ≤ length old → Filled read old (put_mid e k new ys) (e + n)
  filled n h = record {
    within = h;
    after = λ l. omega (arith, ends l);
    begins = λ l. ap (λ (i : ℕ). take i (put_mid e k new ys)) (ends l) ∙ take_put e k new ys (within w) ∙ held w l;
  }
