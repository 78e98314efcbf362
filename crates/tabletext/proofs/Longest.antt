-- The text of a well-formed table has at most 731,386 bytes: 10 for the layout, 12 for each of 4 header codes, 42 for each of 64 scopes, and 45 for each
-- of its rows, of which a scope has at most 253.
use mathlib.Core.Path.{◌≡◌, refl}
use mathlib.Core.Bool.{Bool, true, false}
use mathlib.Core.List.{List, [], ◌∷◌, ◌++◌}
use Prim.Native.Nat.{ℕ, ◌*◌, ◌≤◌}
use native.Mathlib.Omega.{arith}
use borrow.Author.Tests.{ltb-true, ltb-false}
use lib.Dec.{ltb}
use lib.ListN.{length, length-append}
use Rattle.rules.specs.Lists.{all, text}
use Rattle.rules.specs.Digits.{hex}
use Rattle.rules.specs.NameTables.{text_names, number_names, bytes_names, control_type_names}
use Rattle.rules.specs.Names.{name_in_lem, names_for}
use Rattle.rules.specs.Listing.{or_dash}
use Rattle.rules.specs.CodeTable.{Tie, Scope, layout, header_count, scope_count, contents_at, bodies_at, header, scopes, scope_ok, well_formed_lem}
use Rattle.rules.proofs.ListLaws.{and_l, and_r}
use Rattle.rules.proofs.CodeTableLaws.{formed}
use Rattle.joinlaws.proofs.TableBytesLaws.{length-codes_at, length-scopes_at}
use Rattle.joinlaws.proofs.JoinLaws.{scope-ok}
use Rattle.text.proofs.Arms.{all_short, one-short}
use Rattle.listing.specs.Bound.{longest_in, longest_type, longest_name}
use Rattle.listing.proofs.Longest.{hex-length, value-name-short}
use Rattle.listing.proofs.Longest as listed
use Rattle.tabletext.proofs.Lines.{plain_names, plain-scope, entry-scope}
use Rattle.tabletext.specs.Text.{remark, kind_words, kind_word, kind_mark, row_line, row_lines, scope_name, type_remark, scope_line, scope_lines, header_line, header_lines, table_text}

-- ---- parts of a line
-- a name is no longer than what stands in its place in a listing
remark-short : (s : List ℕ) → length (or_dash s) ≤ 26 → length (remark s) ≤ 30
unfolding remark or_dash
remark-short [] h = omega arith
remark-short (b ∷ s) h = omega arith

longest-name : longest_name ≡ 26
unfolding longest_name longest_in text_names number_names bytes_names
longest-name = refl

longest-type : longest_type ≡ 16
unfolding longest_type longest_in control_type_names
longest-type = refl

kind-short : (k : ℕ) → length (kind_word k) ≤ 6
unfolding kind_word all
kind-short = one-short (text "bytes") (all_short 6 kind_words refl) (omega arith)

pub scope-name-short : (k c : ℕ) → length (scope_name k c) ≤ 10
unfolding scope_name all
scope-name-short k c = one-short (text "entry " ++ hex 4 c) (all_short 10 plain_names refl) (omega (arith, hex-length 4 c)) k

pub type-short : (k c : ℕ) (b : Bool) → ltb k 2 ≡ b → length (type_remark k c) ≤ 30
type-short k c true e = rw (plain-scope k c (ltb-true k 2 e)) (omega arith)
type-short k c false e =
    rw (entry-scope k c (ltb-false k 2 e)) (remark-short (name_in_lem control_type_names c) (omega (arith, longest-type, listed.type-short c)))

-- ---- lines
pub row-short : (r : Tie) → length (row_line r) ≤ 45
unfolding row_line
row-short r =
    let mark = kind_mark r.id r.kind in
    simp length-append
    (omega (
      arith,
      hex-length 2 r.id,
      hex-length 4 r.target,
      kind-short r.kind,
      remark-short (name_in_lem (names_for mark) r.target) (omega (arith, longest-name, value-name-short mark r.target)),
    ))

rows_short : (rs : List Tie) → length (row_lines rs) ≤ 45 * length rs
unfolding row_lines
rows_short [] = omega arith
rows_short (r ∷ rs) = simp length-append (omega (arith, row-short r, rows_short rs))

scope-short : (k c : ℕ) → length (scope_line k c) ≤ 42
unfolding scope_line
scope-short k c = simp length-append (omega (arith, scope-name-short k c, type-short k c (ltb k 2) refl))

headers-short : (cs : List ℕ) → length (header_lines cs) ≤ 12 * length cs
unfolding header_lines header_line
headers-short [] = omega arith
headers-short (c ∷ cs) = simp length-append (omega (arith, hex-length 4 c, headers-short cs))

scopes-short : (ss : List Scope) → all scope_ok ss ≡ true → length (scope_lines ss) ≤ 11427 * length ss
unfolding scope_lines all
scopes-short [] o = omega arith
scopes-short (s ∷ ss) o =
    simp length-append
    (omega (
      arith,
      scope-short s.kind s.code,
      rows_short s.rows,
      (scope-ok s (and_l (scope_ok s) (all scope_ok ss) o)).few-rows,
      scopes-short ss (and_r (scope_ok s) (all scope_ok ss) o),
    ))

-- ---- the table
module _ (t : List ℕ) (w : well_formed_lem t ≡ true) where
  pub longest-table : length (table_text t) ≤ 731386
  unfolding table_text
  longest-table =
      let F = formed t w in
      let few : header_count t ≤ 4 = F.few-headers in
      let many : scope_count t ≤ 64 = F.few-scopes in
      simp length-append
      (omega (
        arith,
        hex-length 2 (layout t),
        headers-short (header t),
        length-codes_at t 4 (header_count t),
        scopes-short (scopes t) F.scopes-ok,
        length-scopes_at t (contents_at t) (bodies_at t) (scope_count t),
      ))
