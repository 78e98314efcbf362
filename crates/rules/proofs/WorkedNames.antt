-- The four name tables: their rows, and which table a mark has.
use Prim.Native.Nat.{ℕ, ◌+◌, ◌*◌, ◌%◌}
use mathlib.Core.Path.{◌≡◌, refl}
use mathlib.Core.Bool.{true}
use mathlib.Core.List.{List, [], ◌∷◌, ◌++◌, map}
use lib.Dec.{ltb}
use lib.ListN.{length, replicate}
use Rattle.rules.specs.Lists.{concat, all, ascends, text}
use Rattle.rules.specs.NameTables.{Table, text_names, number_names, bytes_names, control_type_names}
use Rattle.rules.specs.Names.{name_in_lem, name_exit, names_for}
use Rattle.rules.specs.Answer.{answer, refusal}
use Rattle.rules.specs.Texts.{text_exit}
use Rattle.rules.proofs.OpenBytes.{bytes_open}
use Rattle.rules.proofs.OpenNames.{names_open}

-- ---- rows
pub names :
    (name_in_lem text_names 0x07 ≡ text "Picture")
    × (name_in_lem text_names 0x1BB ≡ text "OnDataChange")
    × (name_in_lem number_names 0x02 ≡ text "AccessKey")
    × (name_in_lem number_names 0x1C4 ≡ text "FilterOnLoad")
    × (name_in_lem number_names 0x13E ≡ text "DatasheetGridlinesBehavior")
    × (name_in_lem bytes_names 0x63 ≡ text "ObjectPalette")
    × (name_in_lem bytes_names 0x179 ≡ text "NameMap")
    × (name_in_lem control_type_names 0x64 ≡ text "Label")
    × (name_in_lem control_type_names 0x247F ≡ text "EmptyCell")
    × (name_in_lem control_type_names 0x99 ≡ [])
    × (map length (text_names ∷ number_names ∷ bytes_names ∷ control_type_names ∷ []) ≡ 95 ∷ 114 ∷ 9 ∷ 55 ∷ [])
unfolding bytes_open names_open
names = (refl, refl, refl, refl, refl, refl, refl, refl, refl, refl, refl)

-- no name is empty, so that no bytes say that there is none; and the ids of every table ascend
pub none-empty : map (all (λ row. ltb 0 (length (text row.1)))) (text_names ∷ number_names ∷ bytes_names ∷ control_type_names ∷ []) ≡ replicate 4 true
unfolding bytes_open names_open
none-empty = refl

pub ids_ascend : map (λ names. ascends 0 (map (λ row. row.0) names)) (text_names ∷ number_names ∷ bytes_names ∷ control_type_names ∷ []) ≡ replicate 4 true
unfolding bytes_open names_open
ids_ascend = refl

-- ---- all of a table in one number: every id, every letter and a zero behind each name, taken as the digits to the base 257 of a number, of which the
-- rest by the prime 2^31 - 1 is left. A change of one id or one letter always changes it. The four numbers were computed from jetdb's tables
unfoldable pub digest : ℕ → List ℕ → ℕ
digest so_far [] = so_far
digest so_far (x ∷ xs) = digest ((so_far * 257 + x) % 2147483647) xs

abbrev letters : Table → List ℕ
letters names = concat (map (λ row. row.0 ∷ text row.1 ++ (0 ∷ [])) names)

pub text_digest : digest 0 (letters text_names) ≡ 1395322500
unfolding digest bytes_open names_open
text_digest = refl

pub number_digest : digest 0 (letters number_names) ≡ 1645766775
unfolding digest bytes_open names_open
number_digest = refl

pub bytes_digest : digest 0 (letters bytes_names) ≡ 399025140
unfolding digest bytes_open names_open
bytes_digest = refl

pub control-type_digest : digest 0 (letters control_type_names) ≡ 1333442383
unfolding digest bytes_open names_open
control-type_digest = refl

-- ---- which table a mark has; 9 has none
pub names-by-mark : map names_for (0 ∷ 1 ∷ 2 ∷ 3 ∷ 4 ∷ 5 ∷ 6 ∷ 7 ∷ 8 ∷ 9 ∷ [])
    ≡ number_names ∷ number_names ∷ number_names ∷ number_names ∷ number_names ∷ bytes_names ∷ text_names ∷ bytes_names ∷ text_names ∷ [] ∷ []
unfolding bytes_open names_for
names-by-mark = refl

-- ---- written into a buffer: what comes after it stays; 9 where it doesn't fit; no bytes where there is none
pub written :
    (name_exit number_names 0x36 (1 ∷ 2 ∷ 3 ∷ 4 ∷ 5 ∷ []) ≡ record { answer = answer 0 4 0 0; out = text "Left" ++ (5 ∷ []) })
    × (name_exit number_names 0x36 (1 ∷ 2 ∷ 3 ∷ []) ≡ record { answer = refusal 9; out = 1 ∷ 2 ∷ 3 ∷ [] })
    × (name_exit bytes_names 0x36 (1 ∷ []) ≡ record { answer = answer 0 0 0 0; out = 1 ∷ [] })
unfolding bytes_open names_open name_exit text_exit
written = (refl, refl, refl)
