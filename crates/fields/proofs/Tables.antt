-- The rows of the four name tables have ids of 16 bits.
use mathlib.Core.Path.{◌≡◌, refl, ap}
use mathlib.Core.Bool.{Bool, true, false, cond, ◌||◌}
use mathlib.Core.List.{[], ◌∷◌}
use mathlib.Core.Option.{Option, some}
use Prim.Native.Nat.{ℕ, ◌≤◌, ◌<◌}
use Prim.Native.String.{String}
use native.Mathlib.Omega.{arith}
use borrow.Author.Tests.{ltb-true, eqb-true}
use lib.Dec.{ltb, leb, eqb}
use Rattle.rules.specs.Lists.{all, find, text}
use Rattle.rules.specs.NameTables.{Table, text_names, number_names, bytes_names, control_type_names}
use Rattle.rules.specs.Names.{has_id, name_text, name_in_lem, names_for}
use Rattle.rules.specs.Listing.{or_dash}
use Rattle.rules.proofs.ListLaws.{and_l, and_r}

abbrev row_fits_lem : ℕ × String → Bool
row_fits_lem row = ltb row.0 65536

abbrev pub Fits : Table → Type 0
Fits t = all row_fits_lem t ≡ true

-- ---- each table is tested once
texts : Fits text_names
unfolding all text_names
texts = refl

numbers : Fits number_names
unfolding all number_names
numbers = refl

bytes : Fits bytes_names
unfolding all bytes_names
bytes = refl

pub control-types : Fits control_type_names
unfolding all control_type_names
control-types = refl

nothing : Fits []
unfolding all
nothing = refl

either : (b : Bool) (t u : Table) → Fits t → Fits u → Fits (cond b t u)
either true t u h k = h
either false t u h k = k

pub values : (m : ℕ) → Fits (names_for m)
unfolding names_for
values m =
    either (leb m 4) _ _ numbers
    (either (eqb m 6 || eqb m 8) _ _ texts
    (either (eqb m 5 || eqb m 7) _ _ bytes nothing))

-- ---- what follows for a name
absent_by : (r : ℕ × String) (o : Option (ℕ × String)) (x : ℕ) → r.0 < 65536 → 65536 ≤ x → name_text o ≡ [] → (b : Bool) → eqb r.0 x ≡ b → name_text (cond b (some r) o) ≡ []
absent_by r o x h g later true e = let same : r.0 ≡ x = eqb-true r.0 x e in absurd (omega arith)
absent_by r o x h g later false e = later

absent_in : (t : Table) (x : ℕ) → Fits t → 65536 ≤ x → name_text (find (has_id x) t) ≡ []
unfolding all find
absent_in [] x h g = refl
absent_in (r ∷ t) x h g =
    absent_by r (find (has_id x) t) x
    (ltb-true r.0 65536 (and_l (row_fits_lem r) (all row_fits_lem t) h))
    g (absent_in t x (and_r (row_fits_lem r) (all row_fits_lem t) h) g) (eqb r.0 x) refl

pub absent : (t : Table) (h : Fits t) (x : ℕ) → 65536 ≤ x → name_in_lem t x ≡ []
unfolding name_in_lem
absent t h x g = absent_in t x h g

pub dash : (t : Table) (h : Fits t) (x : ℕ) → 65536 ≤ x → or_dash (name_in_lem t x) ≡ text "-"
unfolding name_in_lem or_dash
dash t h x g = ap or_dash (absent_in t x h g)
