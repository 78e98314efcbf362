-- Worked examples of wish 2, by computation.
use Prim.Native.Nat.{ℕ}
use mathlib.Core.Path.{◌≡◌, refl}
use mathlib.Core.Bool.{true, false}
use mathlib.Core.List.{List, [], ◌∷◌, ◌++◌}
use Rattle.rules.specs.Lists.{text}
use Rattle.rules.specs.Answer.{answer, refusal}
use Rattle.rules.specs.Dump.{dump}
use Rattle.rules.specs.Pairing.{names_match, pair_exit}
use Rattle.rules.specs.declared.Answer.{Answer}
use Rattle.rules.proofs.OpenPairing.{pairing_open}

-- ---- names
-- folding begins at A and ends at Z, and ASCII ends at 0x7F
pub names_fold :
    (names_match (text "AZaz@[0") (text "azAZ@[0") ≡ true)
    × (names_match (text "@") (text "`") ≡ false)
    × (names_match (text "[") (text "{") ≡ false)
    × (names_match (dump "7F") (dump "7F") ≡ true)
    × (names_match (dump "80") (dump "80") ≡ false)
    × (names_match (text "ab") (text "abc") ≡ false)
    × (names_match (text "abc") (text "ab") ≡ false)
    × (names_match [] [] ≡ true)
unfolding pairing_open
names_fold = (refl, refl, refl, refl, refl, refl, refl, refl)

-- ---- rows
-- at 0 "Odd" as UTF-16, at 6 "odd" as bytes, at 9 "A", at 11 a letter beyond ASCII, at 13 a unit whose low byte alone is ASCII
abbrev stream : List ℕ
stream = dump "4F 00 64 00 64 00" ++ text "odd" ++ dump "41 00  E9 00  41 01"

-- at 0 "ODD", at 3 "CONTROL_12", at 13 "a", at 14 a letter beyond ASCII, at 15 "odd"
abbrev info_stream : List ℕ
info_stream = text "ODDCONTROL_12a" ++ dump "E9" ++ text "odd"

abbrev info : ℕ → ℕ → ℕ → ℕ → List ℕ
info type start size cut = type ∷ 77 ∷ start ∷ size ∷ cut ∷ []

-- the first "odd" was cut, and there are two more
abbrev infos : List ℕ
infos = info 0x6E 15 3 1 ++ (info 0x6D 0 3 0 ++ (info 0x6F 3 10 0 ++ (info 0x64 13 1 0 ++ (info 0x65 14 1 0 ++ info 0x70 15 3 0))))

abbrev control : ℕ → ℕ → ℕ → ℕ → List ℕ
control type mark start size = type ∷ mark ∷ start ∷ size ∷ 91 ∷ 92 ∷ 93 ∷ 94 ∷ []

-- nine rows by their types, the last of which isn't counted, and two words more
abbrev controls : ℕ → ℕ → ℕ → ℕ → List ℕ
controls a b c d =
    control a 0 0 6  -- "Odd"
    ++ (control b 1 12 99  -- numbered 12; the length isn't looked at
    ++ (control c 2 6 3  -- "odd" by its bytes
    ++ (control d 0 9 2  -- "A"
    ++ (control 7 0 11 2  -- beyond ASCII
    ++ (control 8 0 13 2  -- beyond ASCII by its high byte
    ++ (control 9 0 0 5  -- of odd length
    ++ (control 10 2 0 6  -- by its bytes, which have zeros
    ++ (control 5 0 0 6 ++ (1 ∷ 2 ∷ [])))))))))

pub pairs : pair_exit stream (controls 0 0 0 0) 8 info_stream infos 6 ≡ record { answer = answer 0 0 0 0; controls = controls 0x6D 0x6F 0x6D 0x64 }
unfolding pairing_open
pairs = refl

-- a cut name pairs with none, though no other row has the name
pub cut_skipped : (pair_exit stream (control 5 0 0 6) 1 info_stream infos 1).controls ≡ control 5 0 0 6
unfolding pairing_open
cut_skipped = refl

-- with no TypeInfo row every type stays; empty names pair
pub none_told : pair_exit stream (controls 0 0 0 0) 9 [] [] 0 ≡ record { answer = answer 0 0 0 0; controls = controls 0 0 0 0 }
unfolding pairing_open
none_told = refl

pub empty-names : (pair_exit [] (control 1 0 0 0) 1 [] (info 2 0 0 0) 1).controls ≡ control 2 0 0 0
unfolding pairing_open
empty-names = refl

-- ---- 11
abbrev one : List ℕ → ℕ → ℕ → ℕ → List ℕ → Answer
one s mark start size rows = (pair_exit s (control 1 mark start size) 1 info_stream rows 1).answer

pub elevens :
    (pair_exit stream (controls 0 0 0 0) 10 info_stream infos 6 ≡ record { answer = refusal 11; controls = controls 0 0 0 0 })  -- more rows than lent
    × ((pair_exit stream (controls 0 0 0 0) 9 info_stream infos 7).answer ≡ refusal 11)
    × (one stream 3 0 0 infos ≡ refusal 11)  -- a mark above 2
    × (one stream 2 0 16 infos ≡ refusal 11)  -- a name outside; an empty one past the end too
    × (one stream 0 16 0 infos ≡ refusal 11)
    × (one stream 0 15 0 infos ≡ answer 0 0 0 0)
    × (one stream 1 16 99 infos ≡ answer 0 0 0 0)  -- a numbered row names no bytes
    × (one [] 0 0xFFFFFFFF 1 infos ≡ refusal 11)  -- sums don't wrap
    × (one stream 0 0 6 (info 1 18 1 0) ≡ refusal 11)  -- a TypeInfo name outside, also of a row that is skipped
    × (one stream 0 0 6 (info 1 19 0 1) ≡ refusal 11)
    × (one stream 0 0 6 (info 1 18 0 1) ≡ answer 0 0 0 0)
unfolding pairing_open
elevens = (refl, refl, refl, refl, refl, refl, refl, refl, refl, refl, refl)
