-- What is read, as controls again: the rows of a reading show its controls, so they are judged as the reading is.
use Prim.Native.Nat.{ℕ, zero, suc, ◌+◌, ◌≤◌, ◌<◌}
use native.Mathlib.Omega.{arith}
use mathlib.Core.Path.{◌≡◌, refl, sym, ap, ap₂, subst, ◌∙◌}
use mathlib.Core.List.{List, ◌∷◌}
use mathlib.Core.Logic.{inl}
use lib.ListN.{length}
use lib.Seq.{length-sets}
use Rattle.rules.specs.Rows.{control_width, property_width, room, row_at}
use Rattle.rules.specs.Listing.{word}
use Rattle.rules.specs.Reading.{Reading, properties}
use Rattle.rules.specs.Lists.{concat}
use Rattle.rules.specs.Blob.{Outcome, refused, read, answer_of, controls_shown, outcome, Exit, exit_by_lem, exit}
use Rattle.rules.specs.declared.Answer.{Answer}
use Rattle.rules.specs.Panel.{broken, verdict, panel_answer, panel_exit}
use Rattle.claims.specs.Panels.{shown_properties, shown_control, shown_controls}
use Rattle.claims.proofs.RowsSeen as seen
use Rattle.claims.proofs.PanelRows.{reading-shown}
use Rattle.claims.proofs.RowChecks.{row-checks}
use Rattle.blob.specs.Exit.{exited}
use Rattle.rows.specs.Get.{shown_by_lem, properties_from}
use Rattle.panel.specs.ByRows.{row_of, name_by_lem, control_by, controls_from, Rows}

-- ---- the controls that rows show, in the words of the claim
properties-shown : (e : Exit) (j n : ℕ) → properties_from e.properties j n ≡ shown_properties e j n
unfolding properties_from shown_properties
properties-shown e j zero = refl
properties-shown e j (suc n) = ap (λ l. shown_by_lem (row_at property_width j e.properties) ∷ l) (properties-shown e (j + 1) n)

controls-shown : (e : Exit) (i n : ℕ) → controls_from e.controls e.properties i n ≡ shown_controls e i n
unfolding controls_from shown_controls control_by shown_control
controls-shown e i zero = refl
controls-shown e i (suc n) =
    ap₂ ◌∷◌
    (ap (λ l. record {
      type = word (row_of e.controls i) 0;
      name = name_by_lem (word (row_of e.controls i) 1) (word (row_of e.controls i) 2) (word (row_of e.controls i) 3);
      properties = l;
      level = word (row_of e.controls i) 6;
      parent = word (row_of e.controls i) 7;
    }) (properties-shown e (word (row_of e.controls i) 4) (word (row_of e.controls i) 5)))
    (controls-shown e (i + 1) n)

-- ---- the exit of a call
module _ (t s cs ps : List ℕ) (a : Answer) (cs' ps' : List ℕ) (x : exited a cs' ps' ≡ exit t s cs ps) where
  abbrev met : Outcome
  met = outcome t s (room control_width cs) (room property_width ps)

  -- a refusal of the reading is handed on
  pub handed-on : (a.number ≡ 0 → ⊥) → exited a cs' ps' ≡ panel_exit t s cs ps
  unfolding panel_exit exit
  handed-on h = x ∙ ap (λ b. exited b (exit t s cs ps).controls (exit t s cs ps).properties) (go met refl)
    where
      go : (o : Outcome) → met ≡ o → answer_of o ≡ panel_answer s o
      go (refused b) e = refl
      go (read r) e = absurd (h (ap (λ e. e.answer.number) x ∙ ap (λ o. (answer_of o).number) e))

  module _ (h : a.number ≡ 0) where
    answers_0 : (exit t s cs ps).answer.number ≡ 0
    answers_0 = ap (λ e. e.answer.number) (sym x) ∙ h

    abbrev was : seen.Zero t s cs ps
    was = seen.zero-read t s cs ps answers_0

    abbrev reading : Reading
    reading = was.reading

    same-exit : exited a cs' ps' ≡ exit_by_lem (read reading) cs ps
    same-exit = x ∙ was.is_seen

    its-rows : seen.Rows reading (exited a cs' ps')
    its-rows = subst (seen.Rows reading) (sym same-exit) was.rows

    many : a.first ≡ length reading.controls
    many = ap (λ e. e.answer.first) same-exit

    all-many : a.second ≡ length (properties reading)
    all-many = ap (λ e. e.answer.second) same-exit

    as_long : length cs' ≡ length cs
    as_long = ap (λ e. length e.controls) same-exit ∙ length-sets cs 0 (concat (controls_shown (read reading)))

    -- what is asked of the rows that are judged
    pub rows_asked : a.second ≤ 0xFFFFFFFF → Rows s cs' a.first
    rows_asked l = record {
      lent = omega (arith, as_long, many, was.controls-fit);
      named = λ i h m. named i h m;
      counted = λ i h.
          let u : i < length reading.controls = omega (arith, many) in
          omega (arith, seen.first-is its-rows i u, seen.count-is its-rows i u, seen.total_below reading.controls i u, seen.reading-many reading, all-many);
    }
      where
        named : (i : ℕ) → i < a.first → word (row_of cs' i) 1 ≡ 0 → word (row_of cs' i) 2 + word (row_of cs' i) 3 ≤ length s
        named = subst
            (λ e. (i : ℕ) → i < e.answer.first → word (row_of e.controls i) 1 ≡ 0 → word (row_of e.controls i) 2 + word (row_of e.controls i) 3 ≤ length s)
            (sym x) (λ i h m. (row-checks.checks t s cs ps answers_0).name-inside i h (inl m))

    panel_is : panel_exit t s cs ps ≡ exited (verdict (broken s reading.controls)) (exit_by_lem (read reading) cs ps).controls (exit_by_lem (read reading) cs ps).properties
    unfolding panel_exit
    panel_is = rw was.met

    pub judged-on : (b : Answer) → b ≡ verdict (broken s (controls_from cs' ps' 0 a.first)) → exited b cs' ps' ≡ panel_exit t s cs ps
    judged-on b e =
        let shown : controls_from cs' ps' 0 a.first ≡ reading.controls = controls-shown (exited a cs' ps') 0 a.first ∙ ap (shown_controls (exited a cs' ps') 0) many ∙ reading-shown reading (exited a cs' ps') its-rows in
        let v : b ≡ verdict (broken s reading.controls) = e ∙ ap (λ l. verdict (broken s l)) shown in
        (λ i. exited (v i) (same-exit i).controls (same-exit i).properties) ∙ sym panel_is
