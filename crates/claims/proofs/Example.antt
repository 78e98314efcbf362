-- Demand 3 is not empty: K1's table, and one that has learned the form's code 0x31.
use Prim.Native.Nat.{ℕ}
use mathlib.Core.Path.{◌≡◌, refl}
use mathlib.Core.List.Memᴰ
use mathlib.Core.List.{List, [], ◌∷◌}
use lib.ListN.{replicate}
use Rattle.rules.specs.Blob.{exit}
use Rattle.rules.specs.Examples.{table, blob, old}
use Rattle.rules.proofs.Open.{rules_open}
use Rattle.claims.specs.Demand3.{Successor, Lent, SameBut, exit_of}
use Rattle.claims.proofs.Demand3.{demand3}

abbrev newer : List ℕ
newer = 0x2A ∷ 0x00 ∷ 0x02 ∷ 0x00 ∷ 0x00 ∷ 0x00 ∷ 0x00 ∷ 0x01 ∷ 0x00 ∷ 0x02 ∷ 0x64 ∷ 0x00 ∷ 0x02 ∷ 0x00
    ∷ 0x31 ∷ 0x2D ∷ 0x00 ∷ 0x00
    ∷ 0x60 ∷ 0x36 ∷ 0x00 ∷ 0x00 ∷ 0xDC ∷ 0x14 ∷ 0x00 ∷ 0x01 ∷ []

successor : Successor table newer
unfolding rules_open
successor = record {
  older-formed = refl;
  newer-formed = refl;
  one-layout = refl;
  same-header = refl;
  holds_every_row = λ kind code r h. record { scope = h.scope; listed = Memᴰ.tail h.listed; its-kind = h.its-kind; its-code = h.its-code; row = h.row };
}

-- room for two controls and three properties, with other words in it and some left over
abbrev lent : Lent
lent = record { controls = replicate 16 old; properties = replicate 20 old }

abbrev lent' : Lent
lent' = record { controls = replicate 17 7; properties = replicate 18 9 }

both : SameBut table newer blob lent lent' (exit_of table blob lent) (exit_of newer blob lent')
unfolding rules_open
both = demand3.chosen-same_but table newer blob lent lent' successor (record { of_controls = refl; of_properties = refl }) refl

-- what the newer writes: the first row has its target in the place of 0x8031
new_words : (exit newer blob (replicate 16 old) (replicate 20 old)).properties
    ≡ 0x2D ∷ 2 ∷ 5 ∷ 0 ∷ 11 ∷ 1
    ∷ 0x36 ∷ 2 ∷ 0xFFFFFFFF ∷ 0 ∷ 19 ∷ 2
    ∷ 0x14 ∷ 6 ∷ 0 ∷ 0 ∷ 23 ∷ 2
    ∷ old ∷ old ∷ []
unfolding rules_open
new_words = refl
