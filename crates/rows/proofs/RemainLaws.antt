-- What remains to be written, whatever the layout: `o` is left to write from here, and then `whole` is written.
use Prim.Native.Nat.{ℕ}
use mathlib.Core.Path.{◌≡◌, refl, sym, ◌∙◌}
use mathlib.Core.List.{[]}
use mathlib.Core.Option.{some}
use Rattle.rules.specs.Tree.{Node}
use Rattle.rules.specs.Reading.{Control}
use Rattle.rows.specs.Writing.{State}
use Rattle.rows.specs.Acts.{Nodes, ◌then◌, act_by, Ready}
use Rattle.rows.proofs.ActLaws.{at_place, act-then, act-none, fit_then, fit-rest}

pub record Remain {P : Type 0} (K : Type 0) (f : Node P → Control) (o whole : Nodes P) (old now : State) : Type 0 where
  pub ready : Ready K f o now
  pub is : act_by f o now ≡ act_by f whole old

module _ {P : Type 0} (K : Type 0) (f : Node P → Control) where
  pub remain_start : (o whole : Nodes P) (st : State) → whole ≡ o → Ready K f whole st → Remain K f o whole st st
  remain_start o whole st e h = rw (← e) (record { ready = h; is = refl })

  pub remain_as : (o o' whole : Nodes P) (old now : State) → o ≡ o' → Remain K f o whole old now → Remain K f o' whole old now
  remain_as o o' whole old now e m = rw e at m

  pub ready-first : (o : Nodes P) (g : ℕ → Nodes P) (st : State) → Ready K f (o then g) st → Ready K f o st
  ready-first o g st h = record { known = h.known; fits = fit_then f o g st h.fits }

  pub remain_step : (o : Nodes P) (g : ℕ → Nodes P) (whole : Nodes P) (old now next : State) (e : ℕ)
      → Remain K f (o then g) whole old now → some (at_place next e) ≡ act_by f o now → Remain K f (g e) whole old next
  remain_step o g whole old now next e m h = record {
    ready = record { known = m.ready.known; fits = fit-rest f o g now next e h m.ready.fits };
    is = sym (act-then f o g now next e h) ∙ m.is;
  }

  pub remain_done : (whole : Nodes P) (old now : State) (e : ℕ) → Remain K f (some ([], e)) whole old now → some (at_place now e) ≡ act_by f whole old
  remain_done whole old now e m = act-none f now e ∙ m.is
