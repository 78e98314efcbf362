-- The lines of two heads, one code after another, and of two rows; which answer has which lines.
use Prim.Native.Nat.{ℕ, ◌+◌, ◌-◌, ◌≤◌, ◌<◌}
use mathlib.Core.Path.{◌≡◌, refl}
use mathlib.Core.Bool.{Bool, true, false, cond, ◌&&◌}
use mathlib.Core.List.{List, [], ◌++◌}
use mathlib.Core.Option.{none}
use Rattle.rules.specs.Lists.{text}
use Rattle.rules.specs.Answer.{other_head}
use Rattle.rules.specs.Bytes.{byte, u16}
use Rattle.rules.specs.Digits.{hex}
use Rattle.rules.specs.CodeTable.{codes_at, scopes, well_formed_lem}
use Rattle.joinlaws.proofs.TableBytesLaws.{no_codes}
use Rattle.codetable.proofs.Steps.{codes_next}
use Rattle.succession.specs.Lacks.{scopes_other}
use Rattle.succession.specs.Found.{as_lack}
use Rattle.joinwhy.specs.Why.{code_words, head_line, first_clash, lack_text, why}

pub words-next : (t : List ℕ) (place left : ℕ) {c : ℕ} → 0 < left → c ≡ u16 t place
    → code_words (codes_at t place left) ≡ (text " " ++ hex 4 c) ++ code_words (codes_at t (place + 2) (left - 1))
unfolding code_words
words-next t place left more e = rw (codes_next t place left more, ← e)

pub words-done : (t : List ℕ) (place left : ℕ) → left ≤ 0 → code_words (codes_at t place left) ≡ []
unfolding code_words
words-done t place left h = rw (no_codes t place left h)

pub head-words : (t : List ℕ) {x n : ℕ} → x ≡ byte t 0 → n ≡ byte t 1
    → head_line t ≡ text "layout " ++ (hex 2 x ++ (text " header" ++ (code_words (codes_at t 4 n) ++ text "\n")))
unfolding head_line
head-words t ex en = rw (ex, en)

-- ---- two rows
pub one_bad : (t t' : List ℕ) → well_formed_lem t ≡ false → lack_text (as_lack (first_clash t t')) ≡ []
unfolding first_clash as_lack lack_text
one_bad t t' a = rw a

pub other_bad : (t t' : List ℕ) → well_formed_lem t' ≡ false → lack_text (as_lack (first_clash t t')) ≡ []
unfolding first_clash as_lack lack_text
other_bad t t' b = go (well_formed_lem t)
  where
    go : (s : Bool) → lack_text (as_lack (cond (s && well_formed_lem t') (scopes_other false t' (scopes t)) none)) ≡ []
    go true = rw b
    go false = refl

-- ---- by the answer
pub why_heads : (n : ℕ) (t t' : List ℕ) → n ≡ other_head → why n t t' ≡ head_line t ++ head_line t'
unfolding why
why_heads n t t' e = rw e
