-- What comes of a plan of joining, carried out by calls of a function whose contract is `join_exit`.
use Prim.Native.Nat.{ℕ}
use mathlib.Core.Path.{◌≡◌, refl, sym, ap, subst, ◌∙◌}
use mathlib.Core.List.{List, Permᴰ}
use mathlib.Core.Option.{none, some}
use Rattle.rules.specs.Texts.{TextExit}
use Rattle.rules.specs.Join.{join_exit, result}
use Rattle.claims.specs.JoiningMany.{Plan, tables, outcome, Ready}
use Rattle.calls.specs.JoiningCalls.{Carried, PlansCarried}
use Rattle.calls.specs.Always.{Fn, Call, handed, seen}
use Rattle.calls.specs.Functions.{Join}
use Rattle.claims.proofs.JoiningMany.{Bytes?, both, missing, any_order}

abbrev pub join_of : Join → TextExit
join_of a = join_exit a.one a.other a.out

module _ (f : Fn Join TextExit) (told : (c : Call f) → seen c ≡ join_of (handed c)) (allows : (a : Join) → (c : Call f) × (handed c ≡ a)) where
  is_outcome : {p : Plan} {r : Bytes?} → Carried f p r → r ≡ outcome p
  unfolding outcome
  is_outcome (Carried.table t) = refl
  is_outcome (Carried.call {p} {q} {a} {b} {out} P Q c e) =
      ap result (told c ∙ ap join_of e)
      ∙ ap (λ (x : Bytes?). both out x (some b)) (is_outcome P)
      ∙ ap (both out (outcome p)) (is_outcome Q)
  is_outcome (Carried.no_first {p} {q} {out} P) = ap (λ (x : Bytes?). both out x (outcome q)) (is_outcome P)
  is_outcome (Carried.no_second {p} {q} {out} Q) = sym (missing (outcome p)) ∙ ap (both out (outcome p)) (is_outcome Q)

  one_more : (p q : Plan) (out : List ℕ) (x y : Bytes?) → Carried f p x → Carried f q y → Carried f (Plan.join p q out) (both out x y)
  one_more p q out none y P Q = Carried.no_first P
  one_more p q out (some a) none P Q = Carried.no_second Q
  one_more p q out (some a) (some b) P Q =
      let c = allows (record { one = a; other = b; out = out }) in
      subst (Carried f (Plan.join p q out)) (ap result (told c.0 ∙ ap join_of c.1)) (Carried.call P Q c.0 c.1)

  carries_out : (p : Plan) → Carried f p (outcome p)
  unfolding outcome
  carries_out (Plan.table t) = Carried.table t
  carries_out (Plan.join p q out) = one_more p q out (outcome p) (outcome q) (carries_out p) (carries_out q)

  any_plan : (p q : Plan) (r r' : Bytes?) → Ready p → Ready q → Permᴰ (tables p) (tables q) → Carried f p r → Carried f q r' → r ≡ r'
  any_plan p q r r' P Q d C D = is_outcome C ∙ any_order.any_plan p q P Q d ∙ sym (is_outcome D)

  pub plans_carried : PlansCarried f
  plans_carried = record { any_plan = any_plan; is_outcome = λ p r. is_outcome; carries_out = carries_out }
