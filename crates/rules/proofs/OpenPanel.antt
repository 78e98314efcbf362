-- Panel rules.
use Prim.Native.Nat.{ℕ}
use Rattle.rules.specs.Lists.{keep, same}
use Rattle.rules.specs.Panel.{has_type_name, is_text_name, name_bytes, is_new_name, is_box, is_one_text, is_filled, is_placing, is_placed, kept, first_broken, broken_from, broken, panel_exit}
use Rattle.rules.proofs.OpenNames.{names_open}
use Rattle.rules.proofs.OpenStreams.{blob_open}

unfoldable pub panel_open : ℕ
unfolding blob_open names_open keep same has_type_name is_text_name name_bytes is_new_name is_box is_one_text is_filled is_placing is_placed kept first_broken broken_from broken panel_exit
panel_open = 0
