-- The lines, as the code meets them: by the numbers that it has read, and one at a time.
use mathlib.Core.Path.{◌≡◌, refl}
use mathlib.Core.List.{List, [], ◌∷◌, ◌++◌}
use Prim.Native.Nat.{ℕ, zero, suc, ◌+◌, ◌*◌, ◌-◌, ◌≤◌, ◌<◌}
use native.Mathlib.Nat.{not-suc-le-zero}
use native.Mathlib.Numerals.{sub-one}
use borrow.Author.Tests.{lt-ltb, le-ltb}
use lib.ListN.{length}
use Rattle.rules.specs.Lists.{text}
use Rattle.rules.specs.Bytes.{byte, u16}
use Rattle.rules.specs.Digits.{hex}
use Rattle.rules.specs.NameTables.{control_type_names}
use Rattle.rules.specs.Names.{name_in_lem}
use Rattle.rules.specs.CodeTable.{Tie, codes_at, tie_at, ties_at, scopes_at}
use Rattle.codetable.specs.Reads.{ReadsRow}
use Rattle.codetable.specs.declared.RowRead.{RowRead}
use Rattle.tabletext.specs.Text.{remark, row_line, row_lines, type_remark, scope_line, scope_lines, header_line, header_lines, table_text}

-- ---- names
pub a_remark : (s : List ℕ) → (length s ≡ 0 → ⊥) → remark s ≡ text "  # " ++ s
unfolding remark
a_remark [] h = absurd (h refl)
a_remark (b ∷ s) h = refl

-- ---- rows
tie_of_lem : {i x k i' x' k' : ℕ} → i ≡ i' → x ≡ x' → k ≡ k' → ◌≡◌ {A = Tie} (record { id = i; target = x; kind = k }) (record { id = i'; target = x'; kind = k' })
tie_of_lem a b c = rw (a, b, c)

rows_next : (t : List ℕ) (at left : ℕ) → 0 < left → row_lines (ties_at t at left) ≡ row_line (tie_at t at) ++ row_lines (ties_at t (at + 4) (left - 1))
unfolding row_lines ties_at
rows_next t at zero h = absurd (not-suc-le-zero h)
rows_next t at (suc k) h = rw sub-one

pub rows-read : (t : List ℕ) (at left : ℕ) (r : RowRead) → 0 < left → ReadsRow t at r
    → row_lines (ties_at t at left) ≡ row_line (record { id = r.id; target = r.target; kind = r.kind }) ++ row_lines (ties_at t (at + 4) (left - 1))
rows-read t at left r h R = rw (tie_of_lem R.id.is R.target.is R.kind.is) (rows_next t at left h)

pub rows-done : (t : List ℕ) (at left : ℕ) → left ≤ 0 → row_lines (ties_at t at left) ≡ []
unfolding row_lines ties_at
rows-done t at zero h = refl
rows-done t at (suc k) h = absurd (not-suc-le-zero h)

-- ---- scopes
abbrev pub plain_names : List (List ℕ)
plain_names = text "form" ∷ text "report" ∷ []

pub plain-scope : (k c : ℕ) → k < 2 → type_remark k c ≡ []
unfolding type_remark
plain-scope k c h = rw (lt-ltb k 2 h)

pub entry-scope : (k c : ℕ) → 2 ≤ k → type_remark k c ≡ remark (name_in_lem control_type_names c)
unfolding type_remark
entry-scope k c h = rw (le-ltb k 2 h)

pub scopes-read : (t : List ℕ) (at body left : ℕ) {k c n : ℕ} → 0 < left → k ≡ byte t at → c ≡ u16 t (at + 1) → n ≡ u16 t (at + 3)
    → scope_lines (scopes_at t at body left)
    ≡ scope_line k c ++ (row_lines (ties_at t body n) ++ scope_lines (scopes_at t (at + 5) (body + 4 * n) (left - 1)))
unfolding scope_lines scopes_at
scopes-read t at body zero h ek ec en = absurd (not-suc-le-zero h)
scopes-read t at body (suc j) h ek ec en = rw (ek, ec, en, sub-one)

pub scopes-done : (t : List ℕ) (at body left : ℕ) → left ≤ 0 → scope_lines (scopes_at t at body left) ≡ []
unfolding scope_lines scopes_at
scopes-done t at body zero h = refl
scopes-done t at body (suc k) h = absurd (not-suc-le-zero h)

-- ---- header codes, and the table
pub headers-read : (t : List ℕ) (at left : ℕ) {c : ℕ} → 0 < left → c ≡ u16 t at
    → header_lines (codes_at t at left) ≡ header_line c ++ header_lines (codes_at t (at + 2) (left - 1))
unfolding header_lines codes_at
headers-read t at zero h e = absurd (not-suc-le-zero h)
headers-read t at (suc k) h e = rw (e, sub-one)

pub headers-done : (t : List ℕ) (at left : ℕ) → left ≤ 0 → header_lines (codes_at t at left) ≡ []
unfolding header_lines codes_at
headers-done t at zero h = refl
headers-done t at (suc k) h = absurd (not-suc-le-zero h)

pub table_lines : (t : List ℕ) {x h n : ℕ} → x ≡ byte t 0 → h ≡ byte t 1 → n ≡ u16 t 2
    → table_text t
    ≡ text "layout " ++ (hex 2 x ++ (text "\n" ++ (header_lines (codes_at t 4 h) ++ scope_lines (scopes_at t (4 + 2 * h) (4 + 2 * h + 5 * n) n))))
unfolding table_text
table_lines t ex eh en = rw (ex, eh, en)
