-- Marks of names: bytes as a number, taken from the last one on; marks that change by a tag or not; rows marked one by one.
use Prim.Native.Nat.{ℕ, zero, suc, ◌+◌, ◌*◌, ◌%◌, ◌^◌, ◌≤◌, ◌<◌}
use native.Mathlib.Omega.{arith}
use native.Mathlib.Nat.{mul-le-mul}
use mathlib.Core.Path.{◌≡◌, refl, sym, ap, ap₂, subst, ◌∙◌}
use mathlib.Core.Bool.{Bool, true, false, cond}
use mathlib.Core.List.{List, [], ◌∷◌, reverse}
use Rattle.std.specs.Prelude.{Ok, Err}
use Rattle.std.specs.List.{fold}
use Rattle.std.proofs.lemmas.List.{reverse-append}
use Rattle.std.proofs.lemmas.List.Sums.{fold-append}
use mathlib.Core.Logic.{◌⊎◌, inl, inr}
use borrow.Author.Tests.{eqb-true, eqb-false, eq-eqb, ne_eqb}
use lib.Dec.{eqb}
use lib.ListN.{length, get_or, set, length-set}
use lib.Seq.{get_or-set_same, get_or-set_other}
use Rattle.rules.specs.Lists.{all, same}
use Rattle.rules.specs.Panel.{is_new_name}
use Rattle.joinlaws.proofs.JoinedLaws.{same_true}
use Rattle.panel.specs.ByRows.{bytes_at, names_before, rule_of}
use Rattle.panel.specs.Marks.{spread, place_by, place_of, tag_of, changed, IsMarked, Marked, Noted}
use Rattle.panel.specs.Tried.{rule_number, Tried}
use Rattle.panel.specs.declared.Rule.{Rule}
use Rattle.panel.specs.declared.Rule.TheVariants.{NoTypeName, OtherName, SameName, NoSource, BadPlace, TooDeep}
use Rattle.panel.proofs.RuleLaws.{Judging}

-- ---- bytes as a number
-- the number, after one byte more
abbrev pub spread_on : ℕ → ℕ → ℕ
spread_on n b = (n * 16777619 % 2 ^ 32 + b) % 2 ^ 32

pub spread_fold : (bs : List ℕ) → fold spread_on 0 (reverse bs) ≡ spread bs
unfolding spread
spread_fold [] = refl
spread_fold (b ∷ bs) =
    ap (fold spread_on 0) (reverse-append (b ∷ []) bs) ∙ fold-append spread_on 0 (reverse bs) (b ∷ []) ∙ ap (λ n. spread_on n b) (spread_fold bs) ∙ omega arith

-- ---- its place
pub square_small : (n : ℕ) → n < 0x100000000 → n * n < 2 ^ 64
square_small n l = let m : n ≤ 0xFFFFFFFF = omega arith in omega (arith, mul-le-mul m m)

pub place-small : (n : ℕ) → place_by n < 16384
unfolding place_by
place-small n = omega arith

-- ---- marks by tags
first_tag : (tag : ℕ) → changed 0 tag ≡ tag
unfolding changed
first_tag tag = refl

pub none_yet : (mark tag : ℕ) → mark ≡ 0 → tag ≡ changed mark tag
none_yet mark tag e = sym (ap (λ m. changed m tag) e ∙ first_tag tag)

pub its_own : (mark tag : ℕ) → mark ≡ tag → tag ≡ changed mark tag
unfolding changed
its_own mark tag e = rw (eq-eqb mark tag e) (sym (go (eqb mark 0)))
  where
    go : (b : Bool) → cond b tag tag ≡ tag
    go true = refl
    go false = refl

pub several : (mark tag : ℕ) → (mark ≡ 0 → ⊥) → (mark ≡ tag → ⊥) → 255 ≡ changed mark tag
unfolding changed
several mark tag z o = rw (ne_eqb mark 0 z, ne_eqb mark tag o)

stays : (tag : ℕ) → changed 255 tag ≡ 255
unfolding changed
stays tag = go (eqb 255 tag) refl
  where
    go : (b : Bool) → eqb 255 tag ≡ b → cond b tag 255 ≡ 255
    go true q = sym (eqb-true 255 tag q)
    go false q = refl

after : (mark tag : ℕ) → (mark ≡ 0) ⊎ ((changed mark tag ≡ mark) ⊎ (changed mark tag ≡ 255))
unfolding changed
after mark tag = go (eqb mark 0) (eqb mark tag) refl refl
  where
    go : (a b : Bool) → eqb mark 0 ≡ a → eqb mark tag ≡ b → (mark ≡ 0) ⊎ ((cond a tag (cond b tag 255) ≡ mark) ⊎ (cond a tag (cond b tag 255) ≡ 255))
    go true b p q = inl (eqb-true mark 0 p)
    go false true p q = inr (inl (sym (eqb-true mark tag q)))
    go false false p q = inr (inr refl)

-- a tag once more, and one that was there before
once_more : (mark tag : ℕ) → changed (changed mark tag) tag ≡ changed mark tag
once_more mark tag = go (after mark tag)
  where
    go : (mark ≡ 0) ⊎ ((changed mark tag ≡ mark) ⊎ (changed mark tag ≡ 255)) → changed (changed mark tag) tag ≡ changed mark tag
    go (inl e) = let w = none_yet mark tag e in ap (λ m. changed m tag) (sym w) ∙ sym (its_own tag tag refl) ∙ w
    go (inr (inl e)) = ap (λ m. changed m tag) e
    go (inr (inr e)) = ap (λ m. changed m tag) e ∙ stays tag ∙ sym e

earlier-kept : (mark tag old : ℕ) → 0 < old → changed mark old ≡ mark → changed (changed mark tag) old ≡ changed mark tag
earlier-kept mark tag old z h = go (after mark tag)
  where
    go : (mark ≡ 0) ⊎ ((changed mark tag ≡ mark) ⊎ (changed mark tag ≡ 255)) → changed (changed mark tag) old ≡ changed mark tag
    go (inl e) = let w = none_yet mark old e ∙ h ∙ e in absurd (omega (arith, w, z))
    go (inr (inl e)) = ap (λ m. changed m old) e ∙ h ∙ sym e
    go (inr (inr e)) = ap (λ m. changed m old) e ∙ stays old ∙ sym e

-- ---- a name noted
module _ {s cs : List ℕ} {n : ℕ} {marks : List ℕ} (m : Marked s cs n marks) (name : List ℕ) where
  module _ (o : IsMarked marks name → ⊥) where
    other_name : (j : ℕ) → j < n → same (bytes_at s cs j) name ≡ false
    other_name j l = go (same (bytes_at s cs j) name) refl
      where
        go : (b : Bool) → same (bytes_at s cs j) name ≡ b → b ≡ false
        go false q = refl
        go true q = absurd (o (subst (IsMarked marks) (same_true (bytes_at s cs j) name q) (m.set j l)))

    none_before : (j : ℕ) → j ≤ n → is_new_name (names_before s cs j) name ≡ true
    unfolding is_new_name all names_before
    none_before zero l = refl
    none_before (suc j) l = rw (other_name j (omega arith)) (none_before j (omega arith))

  module _ {place tag next : ℕ} (is : place ≡ place_of name) (tagged : tag ≡ tag_of name) (changes : next ≡ changed (get_or marks place 0) tag) where
    -- the mark that is changed says that the name is new
    pub told_new : (get_or marks place 0 ≡ next → ⊥) → true ≡ is_new_name (names_before s cs n) name
    told_new o = sym (none_before by_name n (omega arith))
      where
        by_name : IsMarked marks name → ⊥
        by_name h = o (sym (changes ∙ ap₂ (λ (x y : ℕ). changed (get_or marks x 0) y) is tagged ∙ h ∙ ap (λ x. get_or marks x 0) (sym is)))

    there : place < length marks
    there = omega (arith, m.all-places, place-small (spread name))

    now_there : get_or (set marks place next) place 0 ≡ changed (get_or marks place 0) tag
    now_there = get_or-set_same marks place next 0 there ∙ changes

    still : (old at : ℕ) → 0 < old → changed (get_or marks at 0) old ≡ get_or marks at 0 → changed (get_or (set marks place next) at 0) old ≡ get_or (set marks place next) at 0
    still old at z h = go (eqb at place) refl
      where
        go : (b : Bool) → eqb at place ≡ b → changed (get_or (set marks place next) at 0) old ≡ get_or (set marks place next) at 0
        go true q =
            let e = eqb-true at place q in
            let g = ap (λ x. get_or (set marks place next) x 0) e ∙ now_there in
            let k = ap (λ x. changed (get_or marks x 0) old) (sym e) ∙ h ∙ ap (λ x. get_or marks x 0) e in
            ap (λ x. changed x old) g ∙ earlier-kept (get_or marks place 0) tag old z k ∙ sym g
        go false q = let g = get_or-set_other marks place at next 0 (eqb-false at place q) in ap (λ x. changed x old) g ∙ h ∙ sym g

    pub noted : (new : Bool) → new ≡ is_new_name (names_before s cs n) name → Noted s cs n name (set marks place next) new
    noted new told =
        let g = ap (λ x. get_or (set marks place next) x 0) (sym is) ∙ now_there in
        record {
          told = told;
          earlier = record { all-places = simp length-set m.all-places; set = λ j l. still (tag_of (bytes_at s cs j)) (place_of (bytes_at s cs j)) (omega arith) (m.set j l) };
          this = ap₂ changed g (sym tagged) ∙ once_more (get_or marks place 0) tag ∙ sym g;
        }

-- ---- rows tried
pub positive : (rule : Rule) → 0 < rule_number rule
positive NoTypeName = omega arith
positive OtherName = omega arith
positive SameName = omega arith
positive NoSource = omega arith
positive BadPlace = omega arith
positive TooDeep = omega arith

pub tried_broken : {s cs ps : List ℕ} {i : ℕ} {marks : List ℕ} (rule : Rule) → rule_number rule ≡ rule_of s cs ps i → Tried s cs ps i marks (Err rule)
tried_broken rule e = let z = positive rule in record { told = e; marked = λ q. absurd (omega arith) }

pub tried_kept : {s cs ps : List ℕ} {i : ℕ} {marks name : List ℕ} {new : Bool} (u : Unit {0}) → name ≡ bytes_at s cs i → Noted s cs i name marks new
    → 0 ≡ rule_of s cs ps i → Tried s cs ps i marks (Ok u)
tried_kept {s} {cs} {ps} {i} {marks} u p d e = record { told = e; marked = λ z. record { all-places = d.earlier.all-places; set = set_to } }
  where
    set_to : (j : ℕ) → j < i + 1 → IsMarked marks (bytes_at s cs j)
    set_to j l = go (eqb j i) refl
      where
        go : (b : Bool) → eqb j i ≡ b → IsMarked marks (bytes_at s cs j)
        go true y = let same_row = eqb-true j i y in rw (same_row, ← p) d.this
        go false y = d.earlier.set j (omega (arith, eqb-false j i y))

-- the rows from i on decide, and those before it are marked
pub record Marking (s cs ps : List ℕ) (n i : ℕ) (marks : List ℕ) : Type 0 where
  pub judging : Judging s cs ps n i
  pub marked : Marked s cs i marks

pub none-marked : (s cs marks : List ℕ) → length marks ≡ 16384 → Marked s cs 0 marks
none-marked s cs marks l = record { all-places = l; set = λ j h. absurd (omega arith) }
