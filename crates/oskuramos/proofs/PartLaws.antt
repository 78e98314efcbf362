-- Which part of the stream or the label a name is, by its mark, and how it is handed over.
use Prim.Native.Nat.{ℕ, ◌+◌}
use native.Mathlib.Nat.{zero-add}
use mathlib.Core.Path.{◌≡◌, refl, sym, ◌∙◌}
use mathlib.Core.Bool.{Bool, true, false, cond, ◌||◌}
use mathlib.Core.List.{List}
use lib.Dec.{leb, eqb}
use lib.ListN.{length}
use borrow.Author.Tests.{ne_eqb}
use Rattle.rules.specs.NamePart as name
use Rattle.rules.specs.NamePart.{of_stream, of_label, no_part, name_part}
use Rattle.oskuramos.specs.Handed.{part, handed_part, part_or}

-- whether a slice has the part is asked alike of both
handed_if : (b : Bool) (p : name.Part) → cond b (handed_part p) (part 0 0 0) ≡ handed_part (cond b p no_part)
handed_if true p = refl
handed_if false p = refl

module _ (s l : List ℕ) (start size mark : ℕ) where
  pub by-stream : (eqb mark 0 || eqb mark 2) ≡ true → part_or 0 (length s) start size ≡ handed_part (name_part s l mark start size)
  unfolding part_or name_part
  by-stream e = handed_if (leb (start + size) (length s)) (of_stream start size) ∙ sym (rw e)

  pub by-label : mark ≡ 1 → part_or 1 (length l) 0 size ≡ handed_part (name_part s l mark start size)
  unfolding part_or name_part
  by-label e = rw (zero-add size, e) (handed_if (leb size (length l)) (of_label 0 size))

  pub by-none : (mark ≡ 0 → ⊥) → (mark ≡ 2 → ⊥) → (mark ≡ 1 → ⊥) → part_or 0 0 0 0 ≡ handed_part (name_part s l mark start size)
  unfolding part_or name_part
  by-none a b c = sym (rw (ne_eqb mark 0 a, ne_eqb mark 2 b, ne_eqb mark 1 c))
