-- GUID text and labels, and how a text is written into a lent buffer.
use Rattle.std.specs.Prelude.{ℕ, cond, List, [], ◌∷◌, ◌++◌, ltb, eqb, length, drop}
use Rattle.rules.specs.Lists.{text}
use Rattle.rules.specs.Bytes.{byte}
use Rattle.rules.specs.Answer.{answer, refusal, no_room_for_text, not_aguid}
use Rattle.rules.specs.Digits.{decimal, hex}
use Rattle.rules.specs.declared.Answer.{Answer}

-- ---- the texts
-- the bytes of g at these places, two digits each
unfoldable pub hexes : List ℕ → List ℕ → List ℕ
hexes g [] = []
hexes g (i ∷ is) = hex 2 (byte g i) ++ hexes g is

-- "GUID text has 38 bytes, in the form of `format_guid`": the first four bytes and the next two pairs have their last byte first
unfoldable pub guid_text_lem : List ℕ → List ℕ
guid_text_lem g =
    text "{" ++ hexes g (3 ∷ 2 ∷ 1 ∷ 0 ∷ [])
    ++ (text "-" ++ hexes g (5 ∷ 4 ∷ [])
    ++ (text "-" ++ hexes g (7 ∷ 6 ∷ [])
    ++ (text "-" ++ hexes g (8 ∷ 9 ∷ [])
    ++ (text "-" ++ hexes g (10 ∷ 11 ∷ 12 ∷ 13 ∷ 14 ∷ 15 ∷ [])
    ++ text "}"))))

-- "the label: Control, an underscore, n in decimal"
unfoldable pub label : ℕ → List ℕ
label n = text "Control_" ++ decimal n

-- ---- writing them
-- all that a caller sees of a writer of bytes: the answer, and the lent buffer at exit
pub record TextExit : Type 0 where
  pub answer : Answer
  pub out : List ℕ

-- a refusal "writes nothing"
abbrev pub refuse : ℕ → List ℕ → TextExit
refuse number out = record { answer = refusal number; out = out }

-- "On 0 these .. return the length written as first count, then 0 and 0; bytes beyond stay." "answers 9 if it doesn't fit"; "A refusal writes nothing."
unfoldable pub text_exit : List ℕ → List ℕ → TextExit
text_exit t out =
    cond (ltb (length out) (length t)) (record { answer = refusal no_room_for_text; out = out })
    (record { answer = answer 0 (length t) 0 0; out = t ++ drop (length t) out })

-- "For GUID text: 10, 9."
unfoldable pub guid_exit : List ℕ → List ℕ → TextExit
guid_exit g out = cond (eqb (length g) 16) (text_exit (guid_text_lem g) out) (record { answer = refusal not_aguid; out = out })

unfoldable pub label_exit : ℕ → List ℕ → TextExit
label_exit n out = text_exit (label n) out
