use mathlib.Core.Path.{ap, ◌∙◌}
use mathlib.Core.List.{List}
use Prim.Native.Nat.{ℕ}
use native.Mathlib.Omega.{arith}
use lib.ListN.{length}
use Rattle.rules.specs.Scalars.{scalars}
use Rattle.values.proofs.Parts.{part-few}
use Rattle.values.proofs.put_characters.Goals as goal

pub overflow_cast-count : goal.overflow_cast-count
overflow_cast-count c =
    let a = c.args in
    let counted = c.characters-count.ensures ∙ ap (λ (s : List ℕ). length (scalars s)) c.value_bytes.ensures in
    record { fits = omega (arith, counted, part-few a.stream.now a.start a.size) }
