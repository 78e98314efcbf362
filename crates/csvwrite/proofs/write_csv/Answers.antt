use mathlib.Core.Path.{◌≡◌, refl, sym}
use mathlib.Core.Bool.{Bool, true, false, not}
use Prim.Native.Nat.{ℕ}
use lib.ListN.{length-replicate}
use Rattle.csvwrite.proofs.ExitLaws.{needed_is, refused-exit, readable, no-room-exit, fits_roomy, ample_roomy}
use Rattle.csvwrite.proofs.write_csv.Goals as goal

no : (t : Bool) → not t ≡ true → t ≡ false
no true e = sym e
no false e = refl

yes : (t : Bool) → not t ≡ false → t ≡ true
yes true e = refl
yes false e = sym e

pub write_all-requires : goal.write_all-requires
write_all-requires c =
    ample_roomy (c.is_ample.ensures c.if-is_ample.true)

pub returns-then-not-enough : goal.returns-then-not-enough
returns-then-not-enough c =
    let a = c.args in
    let needed = needed_is _ _ _ _ (length-replicate {A = ℕ} 1 0) (length-replicate {A = ℕ} 1 0) c.read_blob-needed.ensures in
    refused-exit a.table.now a.stream.now a.controls.now a.properties.now needed c.enough.ensures (no _ c.if-not-enough.true-raw) _ c.read_blob.ensures

pub text_fits-requires : goal.text_fits-requires
text_fits-requires c =
    let a = c.args in
    let needed = needed_is _ _ _ _ (length-replicate {A = ℕ} 1 0) (length-replicate {A = ℕ} 1 0) c.read_blob-needed.ensures in
    readable a.table.now a.stream.now a.controls.now a.properties.now needed c.enough.ensures (yes _ c.if-not-enough.false-raw) (record { index_is = c.index-index.ensures; letters-are = c.letters-letters.ensures })

pub returns-then-not-text_fits : goal.returns-then-not-text_fits
returns-then-not-text_fits c =
    let a = c.args in
    let needed = needed_is _ _ _ _ (length-replicate {A = ℕ} 1 0) (length-replicate {A = ℕ} 1 0) c.read_blob-needed.ensures in
    no-room-exit a.table.now a.stream.now a.controls.now a.properties.now needed c.enough.ensures (yes _ c.if-not-enough.false-raw) c.text_fits.ensures (no _ c.if-not-text_fits.true-raw) c.refused.ensures

pub write_all-requires-2 : goal.write_all-requires-2
write_all-requires-2 c =
    fits_roomy c.text_fits.ensures (yes _ c.if-not-text_fits.false-raw)
