-- A line, field by field as the code writes it.
use mathlib.Core.Path.{◌≡◌}
use mathlib.Core.List.{List, [], ◌∷◌, ◌++◌, append_assoc}
use Prim.Native.Nat.{ℕ}
use Rattle.rules.specs.Lists.{text}
use Rattle.rules.specs.Bytes.{part}
use Rattle.rules.specs.Digits.{decimal, hex}
use Rattle.rules.specs.NameTables.{control_type_names}
use Rattle.rules.specs.Names.{name_in_lem}
use Rattle.rules.specs.Listing.{or_dash, word}
use Rattle.text.specs.Writer.{Wrote}
use Rattle.text.proofs.Chain.{◌⨟◌}
use Rattle.rows.specs.Get.{InfoOf}
use Rattle.rows.specs.declared.InfoRow.{InfoRow}
use Rattle.fields.specs.Parts.{fields}
use Rattle.listing.specs.InfoLine.{name_bytes, size_column, info_line}

module _ (stream : List ℕ) (n : ℕ) (row : List ℕ) where
  info_text : info_line stream n row
      ≡ fields (text "T" ∷ decimal n ∷ hex 4 (word row 0) ∷ [])
      ++ (or_dash (name_in_lem control_type_names (word row 0))
      ++ (text " " ++ (decimal (word row 1)
      ++ (text " " ++ (size_column (word row 3) (word row 4)
      ++ (text " " ++ (or_dash (name_bytes (part stream (word row 2) (word row 3)))
      ++ text "\n")))))))
  unfolding info_line
  info_text = simp append_assoc

  pub info_wrote : {o b1 b2 b3 b4 b5 b6 b7 b8 new name : List ℕ} {at p1 p2 p3 p4 p5 p6 p7 p8 e : ℕ} {r : InfoRow}
      → InfoOf row r → name ≡ part stream r.start r.size
      → Wrote o at (fields (text "T" ∷ decimal n ∷ hex 4 r.type_code ∷ [])) b1 p1
      → Wrote b1 p1 (or_dash (name_in_lem control_type_names r.type_code)) b2 p2
      → Wrote b2 p2 (text " ") b3 p3 → Wrote b3 p3 (decimal r.index) b4 p4
      → Wrote b4 p4 (text " ") b5 p5 → Wrote b5 p5 (size_column r.size r.cut) b6 p6
      → Wrote b6 p6 (text " ") b7 p7 → Wrote b7 p7 (or_dash (name_bytes name)) b8 p8
      → Wrote b8 p8 (text "\n") new e
      → Wrote o at (info_line stream n row) new e
  info_wrote h m w1 w2 w3 w4 w5 w6 w7 w8 w9 =
      rw info_text (rw (m, h.type-code, h.index, h.start, h.size, h.cut) at (w1 ⨟ w2 ⨟ w3 ⨟ w4 ⨟ w5 ⨟ w6 ⨟ w7 ⨟ w8 ⨟ w9))
