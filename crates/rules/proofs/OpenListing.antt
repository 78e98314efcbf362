-- The listing.
use Prim.Native.Nat.{ℕ}
use Rattle.rules.specs.Listing.{or_dash, answer_line, name_column, parent_column, control_line, mark_word, yes_or_no, number32, value_column, property_line, lines_from, printed, listing}

unfoldable pub listing_open : ℕ
unfolding or_dash answer_line name_column parent_column control_line mark_word yes_or_no number32 value_column property_line lines_from printed listing
listing_open = 0
