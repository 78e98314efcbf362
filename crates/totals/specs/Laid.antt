-- A record by its numbers one after the other.
use Rattle.std.specs.Prelude.{ℕ, List, get_or, take, drop}
use Rattle.rules.specs.declared.Totals.{Totals}

unfoldable pub laid : List ℕ → Totals
laid words = record {
  answers = take 6 (drop 0 words);
  types = take 31 (drop 6 words);
  unmapped = get_or words 37 0;
  mapped = get_or words 38 0;
  marks = take 9 (drop 39 words);
}
