-- A node's name: looked for row by row, and by the definitions.
use Prim.Native.Nat.{ℕ, suc, ◌+◌, ◌-◌, ◌≤◌, ◌<◌}
use native.Mathlib.Omega.{arith}
use mathlib.Core.Path.{◌≡◌, refl, sym, ap, ◌∙◌}
use mathlib.Core.Bool.{Bool, true, false, cond}
use mathlib.Core.List.{List, [], ◌∷◌, map}
use mathlib.Core.Option.{some}
use lib.Dec.{eqb}
use borrow.Author.Tests.{eq-eqb, ne_eqb}
use Rattle.rules.specs.Lists.{find}
use Rattle.rules.specs.Rows.{property_width, row_at}
use Rattle.rules.specs.Listing.{word}
use Rattle.rules.specs.Tree.{Node}
use Rattle.rules.specs.Later.{Prop}
use Rattle.rules.specs.ReadLater as rules
use Rattle.rules.specs.ReadLater.{property_of, name_by_lem, name_of}
use Rattle.rules.specs.declared.Property.{Property}
use Rattle.rules.specs.declared.Name.{Name}
use Rattle.rules.specs.declared.Name.TheVariants.{Numbered}
use Rattle.rows.specs.Get.{PropertyOf, shown_by_lem, properties_from}
use Rattle.rows.proofs.GetLaws.{property-shown}
use Rattle.later.specs.Write.{name_or, name_among}

among_same : (s : List ℕ) (qs : List Prop) → name_among (map (property_of s) qs) ≡ rules.name_or s (find (λ q. eqb q.id 0x0014) qs)
unfolding name_among find property_of
among_same s [] = refl
among_same s (q ∷ qs) = go (eqb q.id 0x0014) (among_same s qs)
  where
    go : (b : Bool) → name_among (map (property_of s) qs) ≡ rules.name_or s (find (λ q. eqb q.id 0x0014) qs)
        → name_or (cond b (some (property_of s q)) (find (λ q. eqb q.id 0x0014) (map (property_of s) qs))) ≡ rules.name_or s (cond b (some q) (find (λ q. eqb q.id 0x0014) qs))
    go true h = refl
    go false h = h

pub node-named : (s : List ℕ) (n : Node Prop) → name_among (map (property_of s) n.props) ≡ name_of s n
unfolding name_of
node-named s n = among_same s n.props

-- ---- from row i on
abbrev pub name_from : List ℕ → ℕ → ℕ → Name
name_from rows end i = name_among (properties_from rows i (end - i))

module _ (rows : List ℕ) (end i : ℕ) where
  pub name-none : end ≤ i → Numbered ≡ name_from rows end i
  unfolding name_among properties_from find
  name-none h =
      let z : end - i ≡ 0 = omega arith in
      sym (ap (λ n. name_among (properties_from rows i n)) z)

  module _ (more : i < end) where
    abbrev row : List ℕ
    row = row_at property_width i rows

    first-is : properties_from rows i (end - i) ≡ shown_by_lem row ∷ properties_from rows (i + 1) (end - (i + 1))
    unfolding properties_from
    first-is =
        let z : end - i ≡ suc (end - (i + 1)) = omega arith in
        ap (properties_from rows i) z

    pub name-found : word row 0 ≡ 0x0014 → {q : Property} → PropertyOf row q → name_by_lem q ≡ name_from rows end i
    unfolding name_among find
    name-found e h = ap name_by_lem (property-shown h) ∙ sym (ap name_among first-is ∙ rw (eq-eqb (word row 0) 0x0014 e))

    pub name-on : (word row 0 ≡ 0x0014 → ⊥) → name_from rows end (i + 1) ≡ name_from rows end i
    unfolding name_among find
    name-on e = sym (ap name_among first-is ∙ rw (ne_eqb (word row 0) 0x0014 e))
