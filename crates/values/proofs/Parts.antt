-- A part of a list: past its end, up to its end, and within it.
use mathlib.Core.Path.{◌≡◌, sym, ap, ◌∙◌}
use mathlib.Core.List.{List, []}
use Prim.Native.Nat.{ℕ, ◌+◌, ◌*◌, ◌-◌, ◌≤◌}
use native.Mathlib.Omega.{arith}
use native.Mathlib.Nat.{min-le_left}
use lib.ListN.{length, take, drop, length-take, length-drop, drop_of_length-le}
use lib.Seq.{take_all}
use Rattle.rules.specs.Bytes.{part}
use Rattle.rules.specs.Scalars.{scalars}
use Rattle.rules.proofs.ScalarLaws.{few}

module _ (s : List ℕ) (p n : ℕ) where
  pub part_none : length s ≤ p → [] ≡ part s p n
  part_none h = rw (drop_of_length-le s h) (sym (take_all n [] (omega arith)))

  pub part-rest : length s - p ≤ n → take (length s - p) (drop p s) ≡ part s p n
  part-rest h =
      take_all (length s - p) (drop p s) (simp length-drop (omega arith))
      ∙ sym (take_all n (drop p s) (simp length-drop (omega arith)))

  pub part-whole : take (p + n - p) (drop p s) ≡ part s p n
  part-whole = let e : p + n - p ≡ n = omega arith in ap (λ (k : ℕ). take k (drop p s)) e

  -- two bytes for each character at least
  pub part-few : 2 * length (scalars (part s p n)) ≤ n
  part-few = omega (arith, few (part s p n), length-take n (drop p s), min-le_left n (length (drop p s)))
