-- What is promised of totals holds of every call of count_blob, and of it beside read_blob. A call is known by what it shows.
use mathlib.Core.Path.{◌≡◌, refl, sym, ap, ap₂, subst, ◌∙◌}
use mathlib.Core.List.{List, [], ◌∷◌, Permᴰ}
use Prim.Native.Nat.{ℕ}
use Rattle.rules.specs.Blob.{Exit, exit}
use Rattle.rules.specs.Totals.{zeros, Total, at, totals_exit}
use Rattle.rules.specs.declared.Answer.{Answer}
use Rattle.rules.specs.declared.Totals.{Totals}
use Rattle.rules.specs.declared.Totalled.{Totalled}
use Rattle.claims.specs.Demand1.{Refused}
use Rattle.claims.specs.Depot as depot
use Rattle.claims.specs.Depot.{single, added, called, run, unrefused, NoneBy12, over, ByRows, NothingElse}
use Rattle.claims.proofs.Depot.{wish4}
use Rattle.calls.specs.Always.{Fn, Call, handed, seen}
use Rattle.calls.specs.Functions.{Blob, Count}
use Rattle.calls.specs.CountCalls.{stream_of, LentOn, left_by, NoneRefused, streams, SameStream, CountsAgree}

abbrev pub count_of : Count → Totalled
count_of a = totals_exit a.totals a.table a.stream a.control_room a.property_room

module _ (g : Fn Count Totalled) (told : (c : Call g) → seen c ≡ count_of (handed c)) where
  -- a call that is lent t
  shows : (t : Totals) (c : Call g) → (handed c).totals ≡ t → seen c ≡ called t (stream_of (handed c))
  shows t c e = told c ∙ ap (λ (u : Totals). called u (stream_of (handed c))) e

  left_run : (t : Totals) (cs : List (Call g)) → LentOn t cs → left_by t cs ≡ run t (streams cs)
  unfolding run
  left_run t [] h = refl
  left_run t (c ∷ cs) h = left_run (seen c).totals cs h.1 ∙ ap (λ (r : Totalled). run r.totals (streams cs)) (shows t c h.0)

  none_12 : (t : Totals) (cs : List (Call g)) → LentOn t cs → NoneRefused cs → NoneBy12 t (streams cs)
  none_12 t [] h n = tt
  none_12 t (c ∷ cs) h n =
      let e = shows t c h.0 in
      ((λ k. n.0 (ap (λ (r : Totalled). r.answer.number) e ∙ k)), subst (λ (r : Totalled). NoneBy12 r.totals (streams cs)) e (none_12 (seen c).totals cs h.1 n.1))

  none-refused : (t : Totals) (cs : List (Call g)) → LentOn t cs → NoneBy12 t (streams cs) → NoneRefused cs
  none-refused t [] h n = tt
  none-refused t (c ∷ cs) h n =
      let e = shows t c h.0 in
      ((λ k. n.0 (sym (ap (λ (r : Totalled). r.answer.number) e) ∙ k)), none-refused (seen c).totals cs h.1 (subst (λ (r : Totalled). NoneBy12 r.totals (streams cs)) (sym e) n.1))

  pub sums : (cs : List (Call g)) → LentOn zeros cs → (c : Total) → at c (left_by zeros cs) ≡ over c (unrefused zeros (streams cs))
  sums cs h c = ap (at c) (left_run zeros cs h) ∙ wish4.sums (streams cs) c

  pub any_order : (t : Totals) (cs ds : List (Call g)) → LentOn t cs → LentOn t ds → Permᴰ (streams cs) (streams ds) → NoneRefused cs → NoneRefused ds × (left_by t cs ≡ left_by t ds)
  any_order t cs ds h k p n =
      let r = wish4.any_order p t (none_12 t cs h n) in
      (none-refused t ds k r.0, left_run t cs h ∙ r.1 ∙ sym (left_run t ds k))

  -- ---- beside read_blob
  module _ (reader : Fn Blob Exit) (read : (c : Call reader) → seen c ≡ exit (handed c).table (handed c).stream (handed c).controls (handed c).properties) where
    module _ (c : Call reader) (d : Call g) (h : SameStream (handed c) (handed d)) where
      abbrev x : depot.Call
      x = stream_of (handed d)

      same-exit : exit x.table x.stream (handed c).controls (handed c).properties ≡ seen c
      same-exit = ap₂ (λ (t s : List ℕ). exit t s (handed c).controls (handed c).properties) h.same_table h.same_stream ∙ sym (read c)

      same_single : single x ≡ (seen c).answer
      same_single = wish4.the_same x (handed c).controls (handed c).properties h.same-controls h.same-properties ∙ ap (λ (e : Exit). e.answer) same-exit

      answers_same : ¬ ((seen d).answer.number ≡ 12) → (seen d).answer ≡ (seen c).answer
      answers_same n =
          let e = told d in
          ap (λ (r : Totalled). r.answer) e ∙ (wish4.otherwise (handed d).totals x (λ k. n (ap (λ (r : Totalled). r.answer.number) e ∙ k))).answer ∙ same_single

      rows_same : (seen c).answer.number ≡ 0 → ByRows x (seen c)
      rows_same z =
          subst (ByRows x) same-exit
          (wish4.rows x (handed c).controls (handed c).properties (ap (λ (a : Answer). a.number) same_single ∙ z) (ap (λ (e : Exit). e.answer.number) same-exit ∙ z))

      nothing-more : Refused (seen c).answer → NothingElse (added x)
      nothing-more n = wish4.others x (λ z. n (sym (ap (λ (a : Answer). a.number) same_single) ∙ z))

    pub agree : CountsAgree reader g
    agree = record { same_answer = answers_same; by_rows = rows_same; nothing_else = nothing-more }
