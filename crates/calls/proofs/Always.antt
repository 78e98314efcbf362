-- From what a function's theorem says of its calls to what follows from it.
use seplogic.Ra.Ura.{Ura}
use base.Logic.{ent, emp, sep, id⊢, via, mono_r, fst∗, snd∗, upd, upd_mono}
use borrow.Fn.Run.{routine_enter}
use borrow.Fn.World.{World, Pr}
use contract.CodeStep.{learn}
use contract.Healthy.{upd-fact}
use contract.Lifetimes.{Lfts, Shares}
use contract.Monad.{top, fact, fact_i, fact_use, fact_mono}
use denote.Ask.Run.{routine_mono}
use denote.Triple.Clauses.{AtExit, Clauses, at_exit, lasts, closing}
use denote.Triple.Entry.{Args, Vals, Res, on_entry}
use denote.Triple.Spec.{Meets}
use denote.Triple.Weaken.{weaken, weaken_under}
use prog.Routine.{Routine}
use prog.Wired.{Wired}
use types.Logic.{sem}
use Rattle.calls.specs.Always.{Saying, Function, Always}

pub both_facts : {M : Type 1} (𝓤 : Ura M) (φ ψ : Type 0) → ent 𝓤 (sep 𝓤 (fact 𝓤 φ) (fact 𝓤 ψ)) (fact 𝓤 (φ × ψ))
both_facts 𝓤 φ ψ =
    fact_use 𝓤 φ (fst∗ 𝓤 (fact 𝓤 φ) (fact 𝓤 ψ)) (λ p.
    fact_use 𝓤 ψ (snd∗ 𝓤 (fact 𝓤 φ) (fact 𝓤 ψ)) (λ q.
    fact_i 𝓤 (φ × ψ) (sep 𝓤 (fact 𝓤 φ) (fact 𝓤 ψ)) (p, q)))

pub three_facts : {M : Type 1} (𝓤 : Ura M) (φ ψ χ : Type 0) → ent 𝓤 (sep 𝓤 (fact 𝓤 φ) (sep 𝓤 (fact 𝓤 ψ) (fact 𝓤 χ))) (fact 𝓤 (φ × (ψ × χ)))
three_facts 𝓤 φ ψ χ = via 𝓤 (sep 𝓤 (fact 𝓤 φ) (fact 𝓤 (ψ × χ))) (mono_r 𝓤 (fact 𝓤 φ) (both_facts 𝓤 ψ χ)) (both_facts 𝓤 φ (ψ × χ))

pub four_facts : {M : Type 1} (𝓤 : Ura M) (φ ψ χ ω : Type 0) → ent 𝓤 (sep 𝓤 (fact 𝓤 φ) (sep 𝓤 (fact 𝓤 ψ) (sep 𝓤 (fact 𝓤 χ) (fact 𝓤 ω)))) (fact 𝓤 (φ × (ψ × (χ × ω))))
four_facts 𝓤 φ ψ χ ω = via 𝓤 (sep 𝓤 (fact 𝓤 φ) (fact 𝓤 (ψ × (χ × ω)))) (mono_r 𝓤 (fact 𝓤 φ) (three_facts 𝓤 ψ χ ω)) (both_facts 𝓤 φ (ψ × (χ × ω)))

module _ (f : Function) where
  abbrev Of : Saying f.ended → Saying f.ended → Type 0
  Of φ ψ = (κs : Lfts f.ended.signature.lifetimes) (a : Args f.ended.signature κs) (r : Res f.ended.signature κs) (e : AtExit f.ended κs) → φ κs a r e → ψ κs a r e

  -- what its name stands for
  abbrev routine : World → Routine
  routine w = w.𝓡.env f.name

  -- a contract's clauses, as an assertion of the logic
  abbrev Clause : Type 2
  Clause = (w : World) (κs : Lfts f.ended.signature.lifetimes) → Args f.ended.signature κs → Res f.ended.signature κs → AtExit f.ended κs → Pr w

  abbrev clauses : Clause → (w : World) → Clauses w.𝓤 f.ended
  clauses E w κs a = record { ghost = Unit {0}; requires = λ _. emp w.𝓤; ensures = λ _ r e. E w κs a r e }

  abbrev Met : Clause → Type 2
  Met E = (w : World) → Wired w.𝓡.env f.code → Meets w.𝓛 f.ended.signature (w.𝓡.run (routine w)) (closing w.𝓛 f.ended (clauses E w))

  -- what follows from them
  follows : (E E' : Clause) → ((w : World) (κs : Lfts f.ended.signature.lifetimes) (a : Args f.ended.signature κs) (r : Res f.ended.signature κs) (e : AtExit f.ended κs)
      → ent w.𝓤 (E w κs a r e) (E' w κs a r e)) → Met E → Met E'
  follows E E' h m w wired =
      weaken w.𝓛 f.ended (clauses E w)
      (λ κs a _ r e. E' w κs a r e)
      (λ κs a _ r ws. h w κs a r (at_exit f.ended κs a ws))
      (w.𝓡.run (routine w)) (routine_mono w.𝓤 w.𝓛.H w.𝓜 w.𝓡 (routine w)) (m w wired)

  abbrev says : Saying f.ended → Clause
  says φ w κs a r e = fact w.𝓤 (φ κs a r e)

  pub so : (φ ψ : Saying f.ended) → Of φ ψ → Always f φ → Always f ψ
  so φ ψ h = follows (says φ) (says ψ) (λ w κs a r e. fact_mono w.𝓤 _ _ (h κs a r e))

  -- what a contract of several clauses says
  pub told : (E : Clause) (φ : Saying f.ended) → ((w : World) (κs : Lfts f.ended.signature.lifetimes) (a : Args f.ended.signature κs) (r : Res f.ended.signature κs) (e : AtExit f.ended κs)
      → ent w.𝓤 (E w κs a r e) (says φ w κs a r e)) → Met E → Always f φ
  told E φ = follows E (says φ)

  -- ---- what a call's arguments tell by being lent
  abbrev pub Tells : ((κs : Lfts f.ended.signature.lifetimes) → Args f.ended.signature κs → Type 0) → Type 2
  Tells Φ =
      (w : World) (κs : Lfts f.ended.signature.lifetimes) (qs : Shares f.ended.signature.lifetimes) (a : Args f.ended.signature κs) (vss : Vals f.ended.signature κs)
      → ent w.𝓤 (on_entry w.𝓛 f.ended.signature κs qs a vss) (w.𝓛.H.⇛ (fact w.𝓤 (Φ κs a)))

  module _ (Φ : (κs : Lfts f.ended.signature.lifetimes) → Args f.ended.signature κs → Type 0) (φ ψ : Saying f.ended) where
    abbrev asking : (w : World) → Clauses w.𝓤 f.ended
    asking w κs a = record { ghost = Unit {0}; requires = λ _. fact w.𝓤 (Φ κs a); ensures = λ _ r e. fact w.𝓤 (ψ κs a r e) }

    -- where it is asked of the caller
    asked : Of φ (λ κs a r e. Φ κs a → ψ κs a r e) → Always f φ
        → (w : World) → Wired w.𝓡.env f.code → Meets w.𝓛 f.ended.signature (w.𝓡.run (routine w)) (closing w.𝓛 f.ended (asking w))
    asked h m w wired =
        weaken_under w.𝓛 f.ended (clauses (says φ) w) (asking w)
        (λ κs a g. g) (λ κs a g. Φ κs a) (λ κs a g. id⊢ w.𝓤 (fact w.𝓤 (Φ κs a))) (λ κs a g k. top w.𝓤 (fact w.𝓤 (Φ κs a)))
        (λ κs a g k r ws. mono_r w.𝓤 (sem w.𝓛 (lasts f.ended κs a ws)) (fact_mono w.𝓤 _ _ (λ q. h κs a r (at_exit f.ended κs a ws) q k)))
        (w.𝓡.run (routine w)) (routine_mono w.𝓤 w.𝓛.H w.𝓜 w.𝓡 (routine w)) (m w wired)

    -- it need not be asked: what is owned at entry tells it
    pub knowing : Tells Φ → Of φ (λ κs a r e. Φ κs a → ψ κs a r e) → Always f φ → Always f ψ
    knowing tells h m w wired y =
        let E : Pr w = on_entry w.𝓛 f.ended.signature y.0.0 y.0.1 y.0.3 y.0.4 in
        let F : Pr w = fact w.𝓤 (Φ y.0.0 y.0.3) in
        learn w.𝓤 w.𝓛.H w.𝓜 _ (routine_enter w.𝓛 w.𝓜 w.𝓡 (routine w) _ _) (sep w.𝓤 E (emp w.𝓤)) (Φ y.0.0 y.0.3)
        (λ σ.
        via w.𝓤 (sep w.𝓤 (w.𝓜.mem σ) (w.𝓛.H.⇛ F))
        (mono_r w.𝓤 (w.𝓜.mem σ) (via w.𝓤 E (fst∗ w.𝓤 E (emp w.𝓤)) (tells w y.0.0 y.0.1 y.0.3 y.0.4)))
        (via w.𝓤 (upd w.𝓤 (sep w.𝓤 (w.𝓜.mem σ) F)) (w.𝓜.⇛_run σ F)
        (via w.𝓤 (upd w.𝓤 F) (upd_mono w.𝓤 (snd∗ w.𝓤 (w.𝓜.mem σ) F)) (upd-fact w.𝓤 _))))
        (λ k. via w.𝓤 (sep w.𝓤 E F) (mono_r w.𝓤 E (fact_i w.𝓤 (Φ y.0.0 y.0.3) (emp w.𝓤) k)) (asked h m w wired y))
