-- No name has more bytes than 32 bits count: each table is computed once, here.
use mathlib.Core.Path.{◌≡◌, refl}
use mathlib.Core.Bool.{Bool, true, false, cond, ◌||◌}
use mathlib.Core.List.{[], ◌∷◌}
use mathlib.Core.Option.{Option, some}
use Prim.Native.Nat.{ℕ, ◌≤◌}
use Prim.Native.String.{String}
use native.Mathlib.Omega.{arith}
use borrow.Author.Tests.{leb-true}
use lib.Dec.{leb, eqb}
use lib.ListN.{length}
use Rattle.rules.specs.Lists.{all, find, text}
use Rattle.rules.specs.NameTables.{Table, text_names, number_names, bytes_names, control_type_names}
use Rattle.rules.specs.Names.{name_in_lem, name_text, has_id, names_for}
use Rattle.rules.proofs.ListLaws.{and_l, and_r}
use Rattle.names.specs.Lookup.{longest_name}

abbrev short : ℕ × String → Bool
short row = leb (length (text row.1)) longest_name

abbrev Short : Table → Type 0
Short t = all short t ≡ true

texts-short : Short text_names
unfolding all text_names
texts-short = refl

numbers_short : Short number_names
unfolding all number_names
numbers_short = refl

bytes-short : Short bytes_names
unfolding all bytes_names
bytes-short = refl

types-short : Short control_type_names
unfolding all control_type_names
types-short = refl

none-short : Short []
unfolding all
none-short = refl

either : (b : Bool) (t u : Table) → Short t → Short u → Short (cond b t u)
either true t u h k = h
either false t u h k = k

values-short : (m : ℕ) → Short (names_for m)
unfolding names_for
values-short m =
    either (leb m 4) _ _ numbers_short
    (either (eqb m 6 || eqb m 8) _ _ texts-short
    (either (eqb m 5 || eqb m 7) _ _ bytes-short none-short))

short-by : (r : ℕ × String) (o : Option (ℕ × String)) → length (text r.1) ≤ longest_name → length (name_text o) ≤ longest_name → (b : Bool) → length (name_text (cond b (some r) o)) ≤ longest_name
short-by r o h later true = h
short-by r o h later false = later

short_in : (t : Table) → Short t → (x : ℕ) → length (name_text (find (has_id x) t)) ≤ longest_name
unfolding all find
short_in [] h x = omega arith
short_in (r ∷ t) h x = short-by r (find (has_id x) t) (leb-true _ _ (and_l (short r) (all short t) h)) (short_in t (and_r (short r) (all short t) h) x) (eqb r.0 x)

pub value-short : (m x : ℕ) → length (name_in_lem (names_for m) x) ≤ longest_name
unfolding name_in_lem
value-short m x = short_in (names_for m) (values-short m) x

pub type-short : (x : ℕ) → length (name_in_lem control_type_names x) ≤ longest_name
unfolding name_in_lem
type-short x = short_in control_type_names types-short x
