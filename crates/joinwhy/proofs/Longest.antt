-- What is said has at most 131 bytes: a scope's line 41, a row's 45. The two heads of well-formed tables have 37 each.
use Prim.Native.Nat.{ℕ, ◌*◌, ◌≤◌}
use native.Mathlib.Omega.{arith}
use mathlib.Core.Path.{◌≡◌, refl}
use mathlib.Core.Bool.{Bool, true, false, cond}
use mathlib.Core.List.{List, [], ◌∷◌, ◌++◌}
use borrow.Author.Tests.{eqb-true}
use lib.Dec.{ltb, eqb}
use lib.ListN.{length, length-append}
use Rattle.rules.specs.Answer.{other_head, two_rows}
use Rattle.rules.specs.CodeTable.{layout, header, header_count, well_formed_lem}
use Rattle.rules.proofs.CodeTableLaws.{formed}
use Rattle.joinlaws.proofs.TableBytesLaws.{length-codes_at}
use Rattle.coderows.specs.declared.Tie as sought
use Rattle.std.proofs.Common.{Option, Some, None}
use Rattle.tablebytes.specs.Rows.{tie_of}
use Rattle.succession.specs.Found.{as_lack}
use Rattle.succession.specs.declared.Lack.{Lack}
use Rattle.listing.proofs.Longest.{hex-length}
use Rattle.tabletext.proofs.Longest.{scope-name-short, type-short, row-short}
use Rattle.joinwhy.specs.Why.{tie, code_words, head_line, first_clash, other_line, lack_text, why}

codes_short : (cs : List ℕ) → length (code_words cs) ≤ 5 * length cs
unfolding code_words
codes_short [] = omega arith
codes_short (c ∷ cs) = simp length-append (omega (arith, hex-length 4 c, codes_short cs))

head-short : (t : List ℕ) → well_formed_lem t ≡ true → length (head_line t) ≤ 37
unfolding head_line
head-short t w =
    let few : header_count t ≤ 4 = (formed t w).few-headers in
    simp length-append (omega (arith, hex-length 2 (layout t), codes_short (header t), length-codes_at t 4 (header_count t)))

other-short : (id : ℕ) (o : Option sought.Tie) → length (other_line id o) ≤ 45
unfolding other_line
other-short id None = omega arith
other-short id (Some o) = row-short (tie id o.target o.kind)

pub lack_short : (l : Option Lack) → length (lack_text l) ≤ 131
unfolding lack_text
lack_short None = omega arith
lack_short (Some l) =
    simp length-append
    (omega (arith, scope-name-short l.kind l.code, type-short l.kind l.code (ltb l.kind 2) refl, row-short (tie_of l.row), other-short l.row.id l.other))

-- answer 16 is of two well-formed tables
pub why-short : (n : ℕ) (t t' : List ℕ) → (n ≡ other_head → (well_formed_lem t ≡ true) × (well_formed_lem t' ≡ true)) → length (why n t t') ≤ 131
unfolding why
why-short n t t' w = go (eqb n other_head) refl
  where
    rows : (b : Bool) → length (cond b (lack_text (as_lack (first_clash t t'))) []) ≤ 131
    rows true = lack_short (as_lack (first_clash t t'))
    rows false = omega arith

    go : (b : Bool) → eqb n other_head ≡ b → length (cond b (head_line t ++ head_line t') (cond (eqb n two_rows) (lack_text (as_lack (first_clash t t'))) [])) ≤ 131
    go true e = let f = w (eqb-true n other_head e) in simp length-append (omega (arith, head-short t f.0, head-short t' f.1))
    go false e = rows (eqb n two_rows)
