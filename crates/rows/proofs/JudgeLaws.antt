-- One argument for both layouts: rows written, and what is seen at exit.
use Prim.Native.Nat.{ℕ, ◌+◌, ◌≤◌}
use native.Mathlib.Omega.{arith}
use mathlib.Core.Path.{◌≡◌, refl, sym, ap, ap₂, ◌∙◌}
use mathlib.Core.Bool.{Bool, true, false, cond}
use mathlib.Core.List.{List, map}
use mathlib.Core.Option.{some}
use lib.Dec.{ltb}
use lib.ListN.{length, length-append, length-map}
use borrow.Author.Tests.{ltb-false}
use Rattle.rules.specs.Lists.{concat}
use Rattle.rules.specs.Answer.{longest}
use Rattle.rules.specs.Rows.{control_width, property_width, room}
use Rattle.rules.specs.Tree.{Node}
use Rattle.rules.specs.Reading.{Control, Reading, properties}
use Rattle.rules.specs.Blob.{Outcome, refused, read, counted, answer_of, exit_by_lem}
use Rattle.rules.specs.declared.Answer.{Answer}
use Rattle.rules.specs.declared.Property.{Property}
use Rattle.rows.specs.Counting.{props_in}
use Rattle.rows.specs.Writing.{state, theirs, write_controls, write_properties}
use Rattle.rows.specs.Acts.{Fit, stood, act_by}
use Rattle.rows.proofs.WritingLaws.{reading-written}
use Rattle.rows.proofs.CountingLaws.{theirs-many}
use Rattle.rows.specs.Judge.{Counts, Roomy, Written, fit_in, Exits}

-- ---- what is seen: a refusal writes nothing; 0 says that there is room
module _ (cs ps : List ℕ) where
  shut : (o : Outcome) → ((answer_of o).number ≡ 0 → ⊥) → record { answer = answer_of o; controls = cs; properties = ps } ≡ exit_by_lem o cs ps
  unfolding concat
  shut (refused a) h = refl
  shut (read r) h = absurd (h refl)

  module _ (r : Reading) (a : Answer) (e : a ≡ answer_of (fit_in (some r) cs ps)) where
    pub exits_refused : (a.number ≡ 0 → ⊥) → Exits (some r) cs ps a cs ps
    exits_refused h = rw e (shut (fit_in (some r) cs ps) (rw e at h))

    module _ (z : a.number ≡ 0) where
      fits : (ltb (room control_width cs) (length r.controls) ≡ false) × (ltb (room property_width ps) (length (properties r)) ≡ false)
      fits = go _ _ (sym (ap (λ x. x.number) e) ∙ z)
        where
          go : (b d : Bool) → (answer_of (cond b (refused (counted 6 r)) (cond d (refused (counted 7 r)) (read r)))).number ≡ 0 → (b ≡ false) × (d ≡ false)
          go true d h = absurd (omega (arith, h))
          go false true h = absurd (omega (arith, h))
          go false false h = (refl, refl)

      pub roomy : Roomy cs ps r
      roomy =
          let c : length r.controls ≤ room control_width cs = ltb-false _ _ fits.0 in
          let p : length (properties r) ≤ room property_width ps = ltb-false _ _ fits.1 in
          record { controls = omega (arith, c); properties = omega (arith, p) }

      pub exits_read : (cs' ps' : List ℕ) → Written r cs ps cs' ps' → Exits (some r) cs ps a cs' ps'
      exits_read cs' ps' w = rw (e, w.controls, w.properties, fits.0, fits.1) refl

-- ---- a reading that is made by `map` of the object's properties and of nodes
module _ {P : Type 0} (f : P → Property) (g : Node P → Control) (same : (n : Node P) → length (g n).properties ≡ length n.props) (qs : List P) (ns : List (Node P)) where
  abbrev pub made : Reading
  made = record { own = map f qs; controls = map g ns }

  pub made-counts : Counts made (length ns) (length qs + props_in ns) (length qs)
  unfolding properties theirs
  made-counts =
      let o : length (map f qs) ≡ length qs = simp length-map in
      record {
        controls-are = simp length-map;
        properties-are = length-append (map f qs) (theirs (map g ns)) ∙ ap₂ (λ a b. a + b) o (theirs-many g same ns);
        own-are = o;
      }

  -- once the object's properties are written, the nodes' rows fit after them
  pub made-fit : (cs ps ps' : List ℕ) → Roomy cs ps made → length ps' ≡ length ps → length qs + length ns + props_in ns ≤ longest → Fit (map g ns) (state cs 0 ps' (length qs))
  made-fit cs ps ps' h l few =
      let k = made-counts in
      let t = theirs-many g same ns in
      record {
        room = record { controls = omega (arith, h.controls); properties = omega (arith, h.properties, l, t, k.properties-are) };
        few = omega (arith, few, t, k.controls-are);
      }

  pub made-written : (cs ps cs' ps' : List ℕ) (c p e e' : ℕ) → some (stood cs' c ps' p e) ≡ act_by g (some (ns, e')) (state cs 0 (write_properties (map f qs) ps 0) (length qs)) → Written made cs ps cs' ps'
  made-written cs ps cs' ps' c p e e' w =
      let y : stood cs' c ps' p e ≡ record { state = write_controls (map g ns) (state cs 0 (write_properties (map f qs) ps 0) (length qs)); next = e' } = cc in
      let v = ap (λ o. o.state) y ∙ ap (λ n. write_controls (map g ns) (state cs 0 (write_properties (map f qs) ps 0) n)) (sym made-counts.own-are) ∙ reading-written made cs ps in
      record { controls = ap (λ st. st.cs) v; properties = ap (λ st. st.ps) v }
