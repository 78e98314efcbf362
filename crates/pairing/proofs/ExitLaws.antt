-- What is judged, part by part, and what a caller sees.
use Prim.Native.Nat.{ℕ, ◌≤◌, ◌<◌}
use mathlib.Core.Path.{◌≡◌, sym, ap, ◌∙◌}
use mathlib.Core.Bool.{Bool, true, false}
use mathlib.Core.List.{List}
use borrow.Author.Tests.{le-leb, lt-leb}
use Rattle.rules.specs.Lists.{all}
use Rattle.rules.specs.Answer.{answer, refusal, bad_rows}
use Rattle.rules.specs.Rows.{control_width, type_info_width, room}
use Rattle.rules.specs.Pairing.{controls_in, infos_in, types_set, is_named, control_ok, may_pair, pair_exit}
use Rattle.rules.specs.declared.Answer.{Answer}
use Rattle.rules.proofs.PairingLaws.{pair-yes, pair-no}

module _ (s l : List ℕ) (n : ℕ) (t infos : List ℕ) (m : ℕ) where
  pub few-controls : room control_width l < n → false ≡ may_pair s l n t infos m
  unfolding may_pair
  few-controls h = rw (lt-leb n (room control_width l) h)

  module _ (lent : n ≤ room control_width l) where
    pub few-infos : room type_info_width infos < m → false ≡ may_pair s l n t infos m
    unfolding may_pair
    few-infos h = rw (le-leb n (room control_width l) lent, lt-leb m (room type_info_width infos) h)

    module _ (infos-lent : m ≤ room type_info_width infos) where
      pub bad_controls : all (control_ok s) (controls_in n l) ≡ false → false ≡ may_pair s l n t infos m
      unfolding may_pair
      bad_controls e = rw (le-leb n (room control_width l) lent, le-leb m (room type_info_width infos) infos-lent, e)

      pub by-infos : all (control_ok s) (controls_in n l) ≡ true → (b : Bool) → b ≡ all (is_named t) (infos_in m infos) → b ≡ may_pair s l n t infos m
      unfolding may_pair
      by-infos e b h = rw (le-leb n (room control_width l) lent, le-leb m (room type_info_width infos) infos-lent, e) h

  pub refused-exit : (a : Answer) → may_pair s l n t infos m ≡ false → a ≡ refusal bad_rows → (a ≡ (pair_exit s l n t infos m).answer) × (l ≡ (pair_exit s l n t infos m).controls)
  refused-exit a e h = let no = pair-no s l n t infos m e in (h ∙ sym (ap (λ x. x.answer) no), sym (ap (λ x. x.controls) no))

  pub paired-exit : (a : Answer) (now : List ℕ) → may_pair s l n t infos m ≡ true → a ≡ answer 0 0 0 0 → now ≡ types_set s t (infos_in m infos) n l
      → (a ≡ (pair_exit s l n t infos m).answer) × (now ≡ (pair_exit s l n t infos m).controls)
  paired-exit a now e h k = let yes = pair-yes s l n t infos m e in (h ∙ sym (ap (λ x. x.answer) yes), k ∙ sym (ap (λ x. x.controls) yes))
