-- Worked examples of the lines.
use mathlib.Core.Path.{◌≡◌, refl}
use mathlib.Core.List.{[], ◌∷◌}
use Rattle.rules.specs.Lists.{text}
use Rattle.rules.proofs.Open.{rules_open}
use Rattle.std.specs.Prelude.{Option, Some, None}
use Rattle.tabletext.specs.Text.{row_line, kind_word, kind_mark, remark, scope_name, type_remark}
use Rattle.succession.specs.declared.Lack.{Lack}
use Rattle.succession.specs.Found.{row_from_lem}
use Rattle.joinwhy.specs.Why.{other_line, lack_text}
use Rattle.difflist.specs.Lines.{spaced, difference_line}

-- a property of control 1 of two, whose row begins with type 109, name mark 0, start 57, length 14
control-named : difference_line (152 ∷ 0 ∷ 20 ∷ 12 ∷ 1 ∷ 1 ∷ 0 ∷ 4294967295 ∷ 109 ∷ 0 ∷ 57 ∷ 14 ∷ 2 ∷ 3 ∷ 1 ∷ 0 ∷ []) 0 (4 ∷ 1 ∷ 221 ∷ 2 ∷ 109 ∷ 32989 ∷ 27 ∷ 6 ∷ 73 ∷ 8 ∷ [])
    ≡ text "D 4 1 221 2 109 32989 27 6 73 8 109 0 57 14\n"
unfolding difference_line spaced rules_open
control-named = refl

-- one of the object's own has no control
own-unnamed : difference_line (152 ∷ 0 ∷ 20 ∷ 12 ∷ 1 ∷ 1 ∷ 0 ∷ 4294967295 ∷ []) 0 (0 ∷ 4294967295 ∷ 221 ∷ 0 ∷ 0 ∷ 32989 ∷ 17 ∷ 6 ∷ 12 ∷ 20 ∷ [])
    ≡ text "D 0 4294967295 221 0 0 32989 17 6 12 20\n"
unfolding difference_line spaced rules_open
own-unnamed = refl

-- ---- why not
abbrev box_source : Option Lack
box_source = Some (record { kind = 2; code = 0x6D; row = row_from_lem 0xDD 0x1B 1; other = None })

row_missing : lack_text box_source ≡ text "entry 006D  # TextBox\nDD 001B text  # ControlSource\nnone\n"
unfolding lack_text other_line scope_name type_remark remark row_line kind_word kind_mark rules_open
row_missing = refl

row_other : other_line 0xDD (Some (record { target = 0x11; kind = 1 })) ≡ text "DD 0011 text  # Caption\n"
unfolding other_line row_line kind_word kind_mark remark rules_open
row_other = refl
