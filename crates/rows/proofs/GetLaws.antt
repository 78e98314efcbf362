-- A word of a row, by its place in the slice: one law for every width. And the properties that rows show.
use Prim.Native.Nat.{ℕ, ◌+◌, ◌*◌, ◌≤◌, ◌<◌}
use native.Mathlib.Nat.{mul-le-mul}
use mathlib.Core.Path.{◌≡◌, ◌∙◌}
use mathlib.Core.List.{List}
use lib.ListN.{get_or, drop}
use lib.Seq.{get_or-take, get_or-drop}
use Rattle.rules.specs.Rows.{row_at}
use Rattle.rules.specs.Listing.{word}
use Rattle.rules.specs.declared.Property.{Property}
use Rattle.rows.specs.Get.{PropertyOf, shown_by_lem}

pub word_in : (w n i : ℕ) (rows : List ℕ) → i < w → word (row_at w n rows) i ≡ get_or rows (n * w + i) 0
word_in w n i rows h = get_or-take w (drop (n * w) rows) i 0 h ∙ get_or-drop (n * w) rows i 0

-- a word's place is small
pub place-small : {n w : ℕ} → n ≤ 0xFFFFFFFF → w ≤ 8 → n * w ≤ 0xFFFFFFFF * 8
place-small h k = mul-le-mul h k

pub property-shown : {row : List ℕ} {p : Property} → PropertyOf row p → p ≡ shown_by_lem row
property-shown h = λ i. record { id = h.id i; value = record { mark = h.mark i; low = h.low i; high = h.high i }; start = h.start i; size = h.size i }
