-- The first rule that a row breaks, and the first row that breaks one.
use Prim.Native.Nat.{ℕ, suc, ◌+◌, ◌-◌, ◌≤◌, ◌<◌}
use native.Mathlib.Omega.{arith}
use native.Mathlib.Numerals.{add-one}
use mathlib.Core.Path.{◌≡◌, refl, sym, ap, ◌∙◌}
use mathlib.Core.Bool.{Bool, true, false, cond}
use mathlib.Core.List.{List, [], ◌∷◌}
use mathlib.Core.Option.{Option, none, some}
use borrow.Author.Tests.{eqb-true, eqb-false, eq-eqb, ne_eqb, le-leb, lt-leb}
use lib.Dec.{eqb, leb}
use Rattle.rules.specs.Answer.{answer}
use Rattle.rules.specs.Listing.{word}
use Rattle.rules.specs.Reading.{Control}
use Rattle.rules.specs.Bytes.{part}
use Rattle.rules.specs.declared.Name.TheVariants.{Numbered, Loose}
use Rattle.rules.specs.Panel.{has_type_name, is_text_name, name_bytes, is_new_name, is_filled, is_placed, kept, first_broken, row_or, broken_from, broken, verdict}
use Rattle.rows.specs.Get.{ControlOf}
use Rattle.rows.specs.declared.ControlRow.{ControlRow}
use Rattle.panel.specs.ByRows.{row_of, mark_at, name_by_lem, control_by, controls_from, bytes_at, names_before, between, Inside, Rows, Before, rule_or0, rule_of}
use Rattle.panel.proofs.PropertyLaws.{counted}

-- ---- names by their words
by-mark : (s : List ℕ) (n mark start size : ℕ) → mark ≡ 0 → (is_text_name (name_by_lem mark start size) ≡ true) × (name_bytes s n (name_by_lem mark start size) ≡ part s start size)
unfolding is_text_name name_bytes
by-mark s n mark start size e = (rw (eq-eqb mark 0 e), rw (eq-eqb mark 0 e))

other-mark : (mark start size : ℕ) → (mark ≡ 0 → ⊥) → is_text_name (name_by_lem mark start size) ≡ false
unfolding is_text_name
other-mark mark start size h = rw (ne_eqb mark 0 h) (go (eqb mark 1))
  where
    go : (b : Bool) → is_text_name (cond b Numbered (Loose start size)) ≡ false
    go true = refl
    go false = refl

text-mark : (mark start size : ℕ) → is_text_name (name_by_lem mark start size) ≡ true → mark ≡ 0
text-mark mark start size e = go (eqb mark 0) refl
  where
    go : (b : Bool) → eqb mark 0 ≡ b → mark ≡ 0
    go true q = eqb-true mark 0 q
    go false q =
        let n : (mark ≡ 0 → ⊥) = λ z. let w : ◌≡◌ {A = Bool} true false = sym (eq-eqb mark 0 z) ∙ q in let z : ◌≡◌ {A = ℕ} 0 1 = cc in omega arith in
        let w : ◌≡◌ {A = Bool} true false = sym e ∙ other-mark mark start size n in
        let z : ◌≡◌ {A = ℕ} 0 1 = cc in
        absurd (omega arith)

-- ---- the rule that row i breaks
module _ (s cs ps : List ℕ) (i : ℕ) (r : ControlRow) where
  abbrev named : Bool
  named = has_type_name r.type_code

  abbrev new : Bool
  new = is_new_name (names_before s cs i) (bytes_at s cs i)

  abbrev filled : Bool
  filled = is_filled r.type_code (between ps r.first (r.first + r.count))

  abbrev placed : Bool
  placed = is_placed (between ps r.first (r.first + r.count))

  module _ (o : ControlOf (row_of cs i) r) where
    -- the six tests by what the code tried
    rule-is : (text new' : Bool) → is_text_name (name_by_lem (word (row_of cs i) 1) (word (row_of cs i) 2) (word (row_of cs i) 3)) ≡ text
        → is_new_name (names_before s cs i) (name_bytes s i (name_by_lem (word (row_of cs i) 1) (word (row_of cs i) 2) (word (row_of cs i) 3))) ≡ new'
        → rule_of s cs ps i ≡ rule_or0 (first_broken 1 (named ∷ text ∷ new' ∷ filled ∷ placed ∷ leb r.level 7 ∷ []))
    unfolding rule_of kept control_by
    rule-is text new' t n = rw (t, n, o.type-code, o.first, o.count, o.level, counted ps (word (row_of cs i) 4) (word (row_of cs i) 5))

    pub rule_1 : false ≡ named → 1 ≡ rule_of s cs ps i
    unfolding first_broken
    rule_1 h = sym (rule-is _ _ refl refl ∙ rw (sym h))

    module _ (h₁ : true ≡ named) where
      pub rule_2 : (r.mark ≡ 0 → ⊥) → 2 ≡ rule_of s cs ps i
      unfolding first_broken
      rule_2 h = sym (rule-is false _ (other-mark (word (row_of cs i) 1) (word (row_of cs i) 2) (word (row_of cs i) 3) (λ e. h (o.mark ∙ e))) refl ∙ rw (sym h₁))

      module _ (h₂ : r.mark ≡ 0) where
        with-text : rule_of s cs ps i ≡ rule_or0 (first_broken 1 (named ∷ true ∷ new ∷ filled ∷ placed ∷ leb r.level 7 ∷ []))
        with-text =
            let m = by-mark s i (word (row_of cs i) 1) (word (row_of cs i) 2) (word (row_of cs i) 3) (sym o.mark ∙ h₂) in
            rule-is true new m.0 (ap (is_new_name (names_before s cs i)) m.1)

        pub rule_3 : false ≡ new → 3 ≡ rule_of s cs ps i
        unfolding first_broken
        rule_3 h = sym (with-text ∙ rw (sym h₁, sym h))

        module _ (h₃ : true ≡ new) where
          pub rule_4 : false ≡ filled → 4 ≡ rule_of s cs ps i
          unfolding first_broken
          rule_4 h = sym (with-text ∙ rw (sym h₁, sym h₃, sym h))

          module _ (h₄ : true ≡ filled) where
            pub rule_5 : false ≡ placed → 5 ≡ rule_of s cs ps i
            unfolding first_broken
            rule_5 h = sym (with-text ∙ rw (sym h₁, sym h₃, sym h₄, sym h))

            module _ (h₅ : true ≡ placed) where
              pub rule_6 : 7 < r.level → 6 ≡ rule_of s cs ps i
              unfolding first_broken
              rule_6 h = sym (with-text ∙ rw (sym h₁, sym h₃, sym h₄, sym h₅, lt-leb r.level 7 h))

              pub no-rule : r.level ≤ 7 → 0 ≡ rule_of s cs ps i
              unfolding first_broken
              no-rule h = sym (with-text ∙ rw (sym h₁, sym h₃, sym h₄, sym h₅, le-leb r.level 7 h))

-- ---- what the number of a rule says
numbered : (n : ℕ) (bs : List Bool) (rule : ℕ) → first_broken n bs ≡ some rule → n ≤ rule
unfolding first_broken
numbered n [] rule e = let z : ◌≡◌ {A = ℕ} 0 1 = cc in absurd (omega arith)
numbered n (true ∷ bs) rule e = let l = numbered (n + 1) bs rule e in omega arith
numbered n (false ∷ bs) rule e = let z : n ≡ rule = cc in omega arith

second-kept : (n : ℕ) (a b : Bool) (bs : List Bool) → first_broken n (a ∷ b ∷ bs) ≡ none → b ≡ true
unfolding first_broken
second-kept n true true bs e = refl
second-kept n true false bs e = let z : ◌≡◌ {A = ℕ} 0 1 = cc in absurd (omega arith)
second-kept n false b bs e = let z : ◌≡◌ {A = ℕ} 0 1 = cc in absurd (omega arith)

rule_some : (o : Option ℕ) (rule : ℕ) → rule_or0 o ≡ rule → (rule ≡ 0 → ⊥) → o ≡ some rule
rule_some none rule e h = absurd (h (sym e))
rule_some (some x) rule e h = ap some e

rule-none : (o : Option ℕ) → ((x : ℕ) → o ≡ some x → 1 ≤ x) → rule_or0 o ≡ 0 → o ≡ none
rule-none none h e = refl
rule-none (some x) h e = let l = h x refl in absurd (omega (arith, e, l))

-- ---- the rows before one, and it
pub before_next : {s cs : List ℕ} {n i : ℕ} → Rows s cs n → Before s cs i → i < n → mark_at cs i ≡ 0 → Before s cs (i + 1)
before_next {s} {cs} {n} {i} rows b h mark = record { lent = omega (arith, rows.lent); inside = inside }
  where
    inside : (k : ℕ) → k < i + 1 → Inside s cs k
    inside k l = go (eqb k i) refl
      where
        go : (t : Bool) → eqb k i ≡ t → Inside s cs k
        go true q = let same = eqb-true k i q in rw same (rows.named i h mark)
        go false q = b.inside k (omega (arith, eqb-false k i q))

-- ---- the first row
pub record Judging (s cs ps : List ℕ) (n i : ℕ) : Type 0 where
  pub within : i ≤ n
  pub decides : broken s (controls_from cs ps 0 n) ≡ broken_from s i (names_before s cs i) (controls_from cs ps i (n - i))
  pub before : Before s cs i

pub judging_start : (s cs ps : List ℕ) (n : ℕ) → Judging s cs ps n 0
unfolding broken names_before
judging_start s cs ps n = record {
  within = omega arith;
  decides = let e : n - 0 ≡ n = omega arith in rw e;
  before = record { lent = omega arith; inside = λ j h. absurd (omega arith) };
}

module _ {s cs ps : List ℕ} {n i : ℕ} (rows : Rows s cs n) (j : Judging s cs ps n i) where
  abbrev row : Control
  row = control_by (row_of cs i) ps

  abbrev tried : Option ℕ
  tried = first_broken 1 (kept s i (names_before s cs i) row)

  abbrev later : List ℕ → Option (ℕ × ℕ)
  later name = broken_from s (i + 1) (name ∷ names_before s cs i) (controls_from cs ps (i + 1) (n - (i + 1)))

  here : i < n → broken s (controls_from cs ps 0 n) ≡ row_or i tried (later (name_bytes s i row.name))
  unfolding controls_from broken_from
  here h = let e : n - i ≡ suc (n - (i + 1)) = omega arith in j.decides ∙ rw e

  pub row-broken : i < n → (rule : ℕ) → rule ≡ rule_of s cs ps i → (rule ≡ 0 → ⊥) → answer 0 0 i rule ≡ verdict (broken s (controls_from cs ps 0 n))
  unfolding rule_of
  row-broken h rule e z = sym (ap verdict (here h ∙ ap (λ o. row_or i o (later (name_bytes s i row.name))) (rule_some tried rule (sym e) z)))

  module _ (h : i < n) (e : 0 ≡ rule_of s cs ps i) where
    untouched : tried ≡ none
    unfolding rule_of
    untouched = rule-none tried (λ x q. numbered 1 _ x q) (sym e)

    mark_0 : mark_at cs i ≡ 0
    unfolding kept control_by
    mark_0 = text-mark (word (row_of cs i) 1) (word (row_of cs i) 2) (word (row_of cs i) 3) (second-kept 1 _ _ _ untouched)

    its-bytes : name_bytes s i row.name ≡ bytes_at s cs i
    unfolding control_by
    its-bytes = (by-mark s i (word (row_of cs i) 1) (word (row_of cs i) 2) (word (row_of cs i) 3) mark_0).1

    next : later (bytes_at s cs i) ≡ broken_from s (i + 1) (names_before s cs (i + 1)) (controls_from cs ps (i + 1) (n - (i + 1)))
    unfolding names_before
    next = ap (λ names. broken_from s (i + 1) names (controls_from cs ps (i + 1) (n - (i + 1)))) (ap (names_before s cs) (sym (add-one i)))

    pub row_kept : Judging s cs ps n (i + 1)
    row_kept = record {
      within = omega arith;
      decides = here h ∙ ap (λ o. row_or i o (later (name_bytes s i row.name))) untouched ∙ ap later its-bytes ∙ next;
      before = before_next rows j.before h mark_0;
    }

  pub all-kept : n ≤ i → answer 0 1 0 0 ≡ verdict (broken s (controls_from cs ps 0 n))
  unfolding controls_from broken_from
  all-kept h =
      let e : n - i ≡ 0 = omega arith in
      let none_left : broken_from s i (names_before s cs i) (controls_from cs ps i (n - i)) ≡ none = rw e in
      sym (ap verdict (j.decides ∙ none_left))
