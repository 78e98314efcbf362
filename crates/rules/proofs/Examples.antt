-- K1 to K12, by computation.
use mathlib.Core.Path.{refl}
use Rattle.rules.specs.Examples.{Examples}
use Rattle.rules.proofs.Open.{rules_open}

pub examples : Examples
unfolding rules_open
examples = record {
  k1 = refl;
  k1-printed = refl;
  k2_fits = refl;
  k2_not = refl;
  k3 = refl;
  k4 = refl;
  k5 = refl;
  k6_one = refl;
  k6_two = refl;
  k7_no = refl;
  k7_yes = refl;
  k8 = refl;
  k9_short = refl;
  k9_read = refl;
  k9_many = refl;
  k10_yes = refl;
  k10_no = refl;
  k11 = refl;
  k12 = refl;
}
