-- The totals are not empty: three streams, their record, another order, and one refused by 12.
use native.Mathlib.Omega.{arith}
use mathlib.Core.Path.{◌≡◌, refl, sym}
use mathlib.Core.List.Permᴰ
use mathlib.Core.List.{[], ◌∷◌, ◌++◌}
use lib.ListN.{replicate}
use Rattle.rules.specs.Examples.{table, blob, childless}
use Rattle.rules.specs.Totals.{zeros}
use Rattle.rules.specs.declared.Totals.{Totals}
use Rattle.rules.proofs.OpenTotals.{totals_open}
use Rattle.claims.specs.Depot.{Call, run, unrefused, NoneBy12}
use Rattle.claims.proofs.Depot.{wish4}

-- K1's Blob, K8's later stream, and K1's Blob with no room for controls
abbrev one : Call
one = record { table = table; stream = blob; control_room = 2; property_room = 3 }

abbrev two : Call
two = record { table = table; stream = childless; control_room = 1; property_room = 2 }

abbrev three : Call
three = record { table = table; stream = blob; control_room = 0; property_room = 3 }

none_12 : NoneBy12 zeros (one ∷ two ∷ three ∷ [])
unfolding totals_open
none_12 = ((λ e. omega arith), ((λ e. omega arith), ((λ e. omega arith), tt)))

-- two answered 0 and one 6; a Label and two Details; two NotDefaults, two Shorts and a Text
totals : run zeros (one ∷ two ∷ three ∷ []) ≡ record {
  answers = 2 ∷ 0 ∷ 0 ∷ 1 ∷ 0 ∷ 0 ∷ [];
  types = 1 ∷ replicate 18 0 ++ (2 ∷ replicate 11 0);
  unmapped = 1;
  mapped = 4;
  marks = 0 ∷ 2 ∷ 2 ∷ 0 ∷ 0 ∷ 0 ∷ 1 ∷ 0 ∷ 0 ∷ [];
}
unfolding run totals_open
totals = refl

in_other-order : run zeros (two ∷ one ∷ three ∷ []) ≡ run zeros (one ∷ two ∷ three ∷ [])
in_other-order = sym (wish4.any_order (Permᴰ.swap refl refl) zeros none_12).1

-- at the ceiling of unmapped properties K1's Blob is refused, and the later stream after it is not
abbrev full : Totals
full = record { answers = replicate 6 0; types = replicate 31 0; unmapped = 4294967295; mapped = 0; marks = replicate 9 0 }

one-refused : unrefused full (one ∷ two ∷ []) ≡ two ∷ []
unfolding unrefused totals_open
one-refused = refl
