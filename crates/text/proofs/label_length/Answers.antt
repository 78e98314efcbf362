use mathlib.Core.Path.{ap, ◌∙◌}
use Prim.Native.Nat.{ℕ, ◌+◌}
use Rattle.text.proofs.Digits.{label_logged}
use Rattle.text.proofs.label_length.Goals as goal

pub returns : goal.returns
returns c = let e = c.checked_ilog10.ensures in ap (λ (k : ℕ). 9 + k) c.unwrap_or.ensures ∙ label_logged _ _ e.none e.power_le e.next_power_gt
