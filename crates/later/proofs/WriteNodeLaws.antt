-- A control written once its group is; and the scan by a loop, where what is left to write from here is what there was to write.
use Prim.Native.Nat.{ℕ, ◌+◌, ◌*◌, ◌≤◌, ◌<◌}
use native.Mathlib.Omega.{arith}
use mathlib.Core.Path.{◌≡◌, refl, sym, ap, ap₂, ◌∙◌}
use mathlib.Core.Bool.{true}
use mathlib.Core.List.{List, [], ◌∷◌, ◌++◌, map}
use mathlib.Core.Option.{some}
use lib.ListN.{length, length-map}
use Rattle.rules.specs.Answer.{longest}
use Rattle.rules.specs.Rows.{control_width, property_width, row_at}
use Rattle.rules.specs.Reading.{Control, name_words, control_row}
use Rattle.rules.specs.Tree.{Node, no_parent}
use Rattle.rules.specs.Later.{Prop, match_at, scan_from}
use Rattle.rules.specs.ReadLater.{property_of, text_name_lem, scanned_name, control_of}
use Rattle.rules.specs.declared.Property.{Property}
use Rattle.rules.specs.declared.Name.{Name}
use Rattle.rows.specs.Put.{put, control_words}
use Rattle.rows.specs.Get.{PropertyOf}
use Rattle.rows.specs.Writing.{State, state, theirs, write_controls, write_properties}
use Rattle.rows.specs.Acts.{Fit, ◌then◌}
use Rattle.rows.specs.declared.ControlRow.{ControlRow}
use Rattle.rows.proofs.PutLaws.{put-length}
use Rattle.rows.proofs.GetLaws.{property-shown}
use Rattle.rows.proofs.WritingLaws.{theirs-one, properties-none, write-one}
use Rattle.rows.proofs.ActLaws.{at_place}
use Rattle.rows.proofs.RemainLaws.{Remain, remain_start, remain_as, ready-first, remain_step, remain_done}
use Rattle.matchlater.specs.Match.{NextMatch}
use Rattle.matchlater.proofs.MatchLaws.{scanned_node, shown, scan-same, scan_step, scan-end}
use Rattle.countlater.proofs.ScanLaws.{shown_some, shown-none}
use Rattle.later.specs.Write.{props_at, GroupReady, GroupDone, next, scanned_control, scanned, ScanReady, ScanDone}
use Rattle.countlater.specs.declared.Group.{Group}
use Rattle.later.proofs.WriteGroupLaws.{many_written, group-kept, first-shows}

-- ---- one control: its group, then its row
pub own-many : (s : List ℕ) (name : Node Prop → Name) (n : Node Prop) → length (control_of s name n).properties ≡ length n.props
unfolding control_of
own-many s name n = simp length-map

-- the control c is next, and its group is at `at`
pub record Due (s : List ℕ) (limit at : ℕ) (c : Control) (st : State) : Type 0 where
  pub inside : limit ≤ length s
  pub small : length s ≤ longest
  pub own : c.properties ≡ map (property_of s) (props_at s limit at)
  pub fits : Fit (c ∷ []) st

module _ {s : List ℕ} {limit at : ℕ} {c : Control} {cs : List ℕ} {ci : ℕ} {ps : List ℕ} {pi : ℕ} (h : Due s limit at c (state cs ci ps pi)) where
  their_own : length (theirs (c ∷ [])) ≡ length (props_at s limit at)
  their_own = ap length (theirs-one c ∙ h.own) ∙ simp length-map

  pub group-ready : GroupReady s limit at (length ps) pi
  group-ready = record { inside = h.inside; small = h.small; fits = omega (arith, h.fits.room.properties, their_own) }

  pub row-ready : ci * control_width + control_width ≤ length cs
  row-ready = omega (arith, h.fits.room.controls)

  module _ {w : Group} {ps' : List ℕ} (d : GroupDone s limit at ps pi ps' w) where
    pub words-ready : ci + pi + (1 + w.count) ≤ longest
    words-ready = omega (arith, h.fits.few, their_own, many_written d)

    pub control-done : {name : Name} → name ≡ c.name → {row : ControlRow} → control_words row ≡ c.type ∷ name_words ci name ++ (pi ∷ w.count ∷ c.level ∷ c.parent ∷ [])
        → {cs' : List ℕ} → cs' ≡ put control_width cs ci (control_words row ∷ []) → state cs' (ci + 1) ps' (pi + w.count) ≡ write_controls (c ∷ []) (state cs ci ps pi)
    unfolding control_row
    control-done {name} en {row} er {cs'} ec =
        let m : length (map (property_of s) (props_at s limit at)) ≡ length (props_at s limit at) = simp length-map in
        let k : w.count ≡ length c.properties = many_written d ∙ sym (ap length h.own ∙ m) in
        let e : control_words row ≡ control_row ci pi c = er ∙ ap₂ (λ m j. c.type ∷ name_words ci m ++ (pi ∷ j ∷ c.level ∷ c.parent ∷ [])) en k in
        let a : cs' ≡ put control_width cs ci (control_row ci pi c ∷ []) = ec ∙ ap (λ r. put control_width cs ci (r ∷ [])) e in
        let b : ps' ≡ write_properties c.properties ps pi = d.rows ∙ ap (λ qs. write_properties qs ps pi) (sym h.own) in
        (λ i. state (a i) (ci + 1) (b i) (pi + k i)) ∙ sym (write-one c (state cs ci ps pi))

-- ---- the scan
pub record Sweeping (s : List ℕ) (from : ℕ) (old : State) (a : ℕ) (now : State) : Type 0 where
  pub within : a ≤ length s
  pub here : a < length s → match_at s a ≡ true
  pub remain : Remain (length s ≤ longest) (scanned_control s) (scanned s a) (scanned s from) old now
  pub controls-same : length now.cs ≡ length old.cs
  pub properties-same : length now.ps ≡ length old.ps

pub sweeping_start : {s : List ℕ} {from : ℕ} {st : State} {a : ℕ} → ScanReady s from st → NextMatch s from a → Sweeping s from st a st
sweeping_start {s} {from} {st} {a} h n = record {
  within = n.within;
  here = n.here;
  remain = remain_start _ (scanned_control s) (scanned s a) (scanned s from) st (ap (λ ns. some (ns, length s)) (scan-same s from a n)) h.ready;
  controls-same = refl;
  properties-same = refl;
}

pub sweeping_done : {s : List ℕ} {from : ℕ} {old : State} {a : ℕ} {cs : List ℕ} {ci : ℕ} {ps : List ℕ} {pi : ℕ} → Sweeping s from old a (state cs ci ps pi) → length s ≤ a
    → ScanDone s from old cs ps (next a ci pi)
sweeping_done {s} {from} {old} {a} {cs} {ci} {ps} {pi} w h =
    let z : length s ≡ a = omega (arith, w.within) in
    let e : scanned s a ≡ some ([], a) = ap₂ (λ ns e. some (ns, e)) (scan-end s a h) z in
    remain_done _ (scanned_control s) (scanned s from) old (state cs ci ps pi) a (remain_as _ (scanned_control s) (scanned s a) (some ([], a)) (scanned s from) old (state cs ci ps pi) e w.remain)

module _ {s : List ℕ} {from : ℕ} {old : State} {a : ℕ} {cs : List ℕ} {ci : ℕ} {ps : List ℕ} {pi : ℕ} (known : Sweeping s from old a (state cs ci ps pi)) (l : a < length s) {b : ℕ}
    (n : NextMatch s (a + 6) b) where
  abbrev here : State
  here = state cs ci ps pi

  -- the match's group, if it has a property, and what is found after it
  left_as : (ns : List (Node Prop)) → shown (props_at s b a) ≡ ns → Remain (length s ≤ longest) (scanned_control s) (some (ns ++ scan_from s b, length s)) (scanned s from) old here
  left_as ns e = remain_as _ (scanned_control s) (scanned s a) _ (scanned s from) old here
      (ap (λ ns. some (ns, length s)) (scan_step s a b (known.here l) n ∙ ap (λ ns. ns ++ scan_from s b) e)) known.remain

  abbrev control : Control
  control = scanned_control s (scanned_node (props_at s b a))

  first-left : 0 < length (props_at s b a) → Remain (length s ≤ longest) (scanned_control s) (some (scanned_node (props_at s b a) ∷ [], b) then scanned s) (scanned s from) old here
  first-left any = left_as _ (shown_some (props_at s b a) any)

  due : 0 < length (props_at s b a) → Due s b a control here
  unfolding control_of
  due any =
      let f = ready-first (length s ≤ longest) (scanned_control s) (some (scanned_node (props_at s b a) ∷ [], b)) (scanned s) here (first-left any).ready in
      record { inside = n.within; small = f.known; own = refl; fits = f.fits }

  pub sweeping_group : GroupReady s b a (length ps) pi
  sweeping_group = go (props_at s b a) refl
    where
      go : (qs : List Prop) → props_at s b a ≡ qs → GroupReady s b a (length ps) pi
      go [] e = record { inside = n.within; small = known.remain.ready.known; fits = omega (arith, known.remain.ready.fits.room.properties, ap length e) }
      go (q ∷ qs) e = group-ready (due (omega (arith, ap length e)))

  module _ {w : Group} {ps' : List ℕ} (d : GroupDone s b a ps pi ps' w) where
    -- a group without a property
    pub sweeping_same : w.count ≤ 0 → Sweeping s from old b (state cs ci ps' pi)
    sweeping_same few = go (props_at s b a) refl
      where
        go : (qs : List Prop) → props_at s b a ≡ qs → Sweeping s from old b (state cs ci ps' pi)
        go (q ∷ qs) e = absurd (omega (arith, few, many_written d, ap length e))
        go [] e =
            let same : ps' ≡ ps = d.rows ∙ ap (λ qs. write_properties (map (property_of s) qs) ps pi) e ∙ properties-none ps pi in
            rw same (record {
              within = n.within;
              here = n.here;
              remain = left_as [] (shown-none (props_at s b a) (omega (arith, ap length e)));
              controls-same = known.controls-same;
              properties-same = known.properties-same;
            })

    module _ (any : 0 < w.count) where
      its : Due s b a control here
      its = due (omega (arith, any, many_written d))

      pub sweeping_row : ci * control_width + control_width ≤ length cs
      sweeping_row = row-ready its

      pub sweeping_adds : ci + pi + (1 + w.count) ≤ longest
      sweeping_adds = words-ready its d

      -- its name is that of its first property, and its row is written
      module _ {q : Property} (eq : PropertyOf (row_at property_width pi ps') q) {name : Name} (en : name ≡ text_name_lem q) {row : ControlRow}
          (er : control_words row ≡ 0 ∷ name_words ci name ++ (pi ∷ w.count ∷ 0 ∷ no_parent ∷ [])) {cs' : List ℕ} (ec : cs' ≡ put control_width cs ci (control_words row ∷ [])) where
        next-is : state cs' (ci + 1) ps' (pi + w.count) ≡ write_controls (control ∷ []) here
        unfolding control_of scanned_name
        next-is = control-done its d (en ∙ ap text_name_lem (property-shown eq ∙ first-shows (group-ready its) d any)) er ec

        pub sweeping_more : Sweeping s from old b (state cs' (ci + 1) ps' (pi + w.count))
        sweeping_more = record {
          within = n.within;
          here = n.here;
          remain = remain_step _ (scanned_control s) (some (scanned_node (props_at s b a) ∷ [], b)) (scanned s) (scanned s from) old here (state cs' (ci + 1) ps' (pi + w.count)) b
              (first-left (omega (arith, any, many_written d))) (ap (λ z. some (at_place z b)) next-is);
          controls-same = ap length ec ∙ put-length control_width cs ci _ ∙ known.controls-same;
          properties-same = group-kept d ∙ known.properties-same;
        }
