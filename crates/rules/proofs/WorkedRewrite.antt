-- Worked streams for the rewriter: both choices of spelling at their limits, what is kept, and the answers.
use Prim.Native.Nat.{ℕ}
use mathlib.Core.Path.{◌≡◌, refl}
use mathlib.Core.List.{List, ◌++◌}
use mathlib.Core.Option.{some}
use lib.ListN.{replicate}
use Rattle.rules.specs.Answer.{answer}
use Rattle.rules.specs.Texts.{refuse}
use Rattle.rules.specs.Rewrite.{length_bytes, value_bytes, property_bytes, many, count_bytes, entry_bytes, entries_bytes, tree_bytes, rewritten, rewrite_exit}
use Rattle.rules.specs.Dump.{dump}
use Rattle.rules.proofs.OpenBytes.{bytes_open}
use Rattle.rules.proofs.OpenTexts.{texts_open}
use Rattle.rules.proofs.OpenStreams.{trees_open}

unfoldable pub rewrite_open : ℕ
unfolding bytes_open texts_open trees_open length_bytes value_bytes property_bytes many count_bytes entry_bytes entries_bytes tree_bytes rewritten rewrite_exit
rewrite_open = 0

-- ten bytes that aren't judged
abbrev ten : List ℕ
ten = dump "07 01 02 03 04 05 06 07 97 09"

-- entry 0x0134 with 0x60 of two bytes, and a list of two: 0x0065 with a length in one byte and no list, and 0xFFFD with a list of none
abbrev entry : List ℕ
entry = dump "34 01  60 FF FE  FF 02 00  65 00  FC 01 FF  FD  FD FF  FF 00 00"

-- the object has 0x01, an empty 0xBD and 0xDC of two bytes, both with 0xFF before the length; then a list of one, with 0xFF
pub spelled : rewritten (ten ++ (dump "01  BD FF 00 00  DC FF 02 00 41 00  FF 01 00" ++ entry)) ≡ some (ten ++ (dump "01  BD 00  DC 02 41 00  FE" ++ entry))
unfolding rewrite_open
spelled = refl

pub spelled-again : rewritten (ten ++ (dump "01  BD 00  DC 02 41 00  FE" ++ entry)) ≡ some (ten ++ (dump "01  BD 00  DC 02 41 00  FE" ++ entry))
unfolding rewrite_open
spelled-again = refl

-- 254 bytes take one byte of length, 255 take three
abbrev sized : List ℕ → ℕ → List ℕ
sized size n = ten ++ (dump "DC" ++ (size ++ (replicate n 1 ++ dump "FF 00 00")))

pub size_254 : rewritten (sized (dump "FF FE 00") 254) ≡ some (sized (dump "FE") 254)
unfolding rewrite_open
size_254 = refl

pub size_255 : rewritten (sized (dump "FF FF 00") 255) ≡ some (sized (dump "FF FF 00") 255)
unfolding rewrite_open
size_255 = refl

-- an entry that isn't reported is kept; an empty list isn't made 0xFD, though both show the same rows
pub kept : rewritten (ten ++ dump "FF 02 00  05 00 FD  98 00 FF 00 00") ≡ some (ten ++ dump "FF 02 00  05 00 FD  98 00 FF 00 00")
unfolding rewrite_open
kept = refl

-- ---- the answers: nothing fits a reading, which comes before the room; a byte of room too few; room and a byte beyond
abbrev one : List ℕ
one = ten ++ dump "FF 01 00  05 00 FD"

pub refused_4 : rewrite_exit (ten ++ dump "FD") (dump "63") ≡ refuse 4 (dump "63")
unfolding rewrite_open
refused_4 = refl

pub refused_9 : rewrite_exit one (replicate 13 99) ≡ refuse 9 (replicate 13 99)
unfolding rewrite_open
refused_9 = refl

pub written : rewrite_exit one (replicate 15 99) ≡ record { answer = answer 0 14 0 0; out = ten ++ dump "FE  05 00 FD  63" }
unfolding rewrite_open
written = refl
