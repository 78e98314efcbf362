-- Rows put into a lent slice from some row on.
use Rattle.std.specs.Prelude.{ℕ, ◌*◌, List, [], ◌∷◌}
use Rattle.std.proofs.lemmas.List.Edits.{sets}
use Rattle.rules.specs.Lists.{concat}
use Rattle.rows.specs.declared.ControlRow.{ControlRow}
use Rattle.rows.specs.declared.InfoRow.{InfoRow}

-- rows of w words, put from row k on
unfoldable pub put : ℕ → List ℕ → ℕ → List (List ℕ) → List ℕ
put w l k rows = sets l (k * w) (concat rows)

abbrev pub control_words : ControlRow → List ℕ
control_words r = r.type_code ∷ r.mark ∷ r.start ∷ r.size ∷ r.first ∷ r.count ∷ r.level ∷ r.parent ∷ []

abbrev pub info_words : InfoRow → List ℕ
info_words r = r.type_code ∷ r.index ∷ r.start ∷ r.size ∷ r.cut ∷ []
