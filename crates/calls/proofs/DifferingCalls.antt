-- What is promised of the list of differences holds of the calls that list them, beside any two calls of a reader.
use Prim.Native.Nat.{ℕ}
use mathlib.Core.Path.{◌≡◌, sym, ap, subst, ◌∙◌}
use mathlib.Core.Bool.{true}
use mathlib.Core.List.{List}
use mathlib.Core.Logic.{◌↔◌}
use Rattle.rules.specs.Blob.{Exit, is2000, exit}
use Rattle.rules.specs.Differences.{DifferencesExit, differences_exit}
use Rattle.claims.specs.Differing.{Differing}
use Rattle.claims.proofs.Differing.{differences}
use Rattle.calls.specs.Always.{Fn, Call, handed, seen}
use Rattle.calls.specs.Functions.{Blob, Differ}
use Rattle.calls.specs.DifferingCalls.{Beside, SameSlices, DifferencesRead}

abbrev pub differences_of : Differ → DifferencesExit
differences_of a = differences_exit a.older a.newer a.stream a.rows

abbrev read_of : Blob → Exit
read_of a = exit a.table a.stream a.controls a.properties

module _ (reader : Fn Blob Exit) (reads : (c : Call reader) → seen c ≡ read_of (handed c)) (allows : (a : Blob) → (c : Call reader) × (handed c ≡ a))
    (f : Fn Differ DifferencesExit) (lists : (c : Call f) → seen c ≡ differences_of (handed c)) where
  module _ (d : Call f) where
    abbrev older : List ℕ
    older = (handed d).older

    abbrev newer : List ℕ
    newer = (handed d).newer

    abbrev stream : List ℕ
    stream = (handed d).stream

    module _ (a b : Call reader) (k : Beside (handed d) (handed a) (handed b)) where
      by_older : seen a ≡ exit older stream (handed a).controls (handed a).properties
      by_older = reads a ∙ (λ i. exit (k.older_table i) (k.older_stream i) (handed a).controls (handed a).properties)

      by_newer : seen b ≡ exit newer stream (handed b).controls (handed b).properties
      by_newer = reads b ∙ (λ i. exit (k.newer_table i) (k.newer_stream i) (handed b).controls (handed b).properties)

      differing : (seen d).answer.number ≡ 0 → is2000 older stream ≡ true → (seen a).answer.number ≡ 0 → (seen b).answer.number ≡ 0
          → Differing older newer stream (seen a) (seen b) (seen d)
      differing z o p q =
          subst (λ (e : Exit). Differing older newer stream e (seen b) (seen d)) (sym by_older)
          (subst (λ (e : Exit). Differing older newer stream (exit older stream (handed a).controls (handed a).properties) e (seen d)) (sym by_newer)
          (subst (λ (e : DifferencesExit). Differing older newer stream (exit older stream (handed a).controls (handed a).properties) (exit newer stream (handed b).controls (handed b).properties) e) (sym (lists d))
          (differences.differing older newer stream (handed d).rows (handed a).controls (handed a).properties (handed b).controls (handed b).properties
          (sym (ap (λ (e : DifferencesExit). e.answer.number) (lists d)) ∙ z) o
          (sym (ap (λ (e : Exit). e.answer.number) by_older) ∙ p) (sym (ap (λ (e : Exit). e.answer.number) by_newer) ∙ q))))

    -- a reading by a table, into these slices
    with_table : (t controls properties : List ℕ) → (c : Call reader) × (handed c ≡ record { table = t; stream = stream; controls = controls; properties = properties })
    with_table t controls properties = allows (record { table = t; stream = stream; controls = controls; properties = properties })

    nothing : (seen d).answer.number ≡ 0
        → ((seen d).answer.first ≡ 0) ↔ ((a b : Call reader) → Beside (handed d) (handed a) (handed b) → SameSlices (handed a) (handed b) → seen a ≡ seen b)
    nothing z =
        let n = differences.nothing older newer stream (handed d).rows (sym (ap (λ (e : DifferencesExit). e.answer.number) (lists d)) ∙ z) in
        let first = ap (λ (e : DifferencesExit). e.answer.first) (lists d) in (
          (λ e a b k same.
              by_older a b k ∙ n.0 (sym first ∙ e) (handed a).controls (handed a).properties
              ∙ (λ i. exit newer stream (same.controls i) (same.properties i)) ∙ sym (by_newer a b k)),
          (λ h. first ∙ n.1 (λ controls properties.
              let x = with_table older controls properties in
              let y = with_table newer controls properties in
              sym (reads x.0 ∙ ap read_of x.1)
              ∙ h x.0 y.0
              (record { older_table = ap (λ (e : Blob). e.table) x.1; newer_table = ap (λ (e : Blob). e.table) y.1; older_stream = ap (λ (e : Blob). e.stream) x.1; newer_stream = ap (λ (e : Blob). e.stream) y.1 })
              (record { controls = ap (λ (e : Blob). e.controls) x.1 ∙ sym (ap (λ (e : Blob). e.controls) y.1); properties = ap (λ (e : Blob). e.properties) x.1 ∙ sym (ap (λ (e : Blob). e.properties) y.1) })
              ∙ (reads y.0 ∙ ap read_of y.1))),
        )

  pub differences_read : DifferencesRead reader f
  differences_read = record { differing = differing; nothing = nothing }
