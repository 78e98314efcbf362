-- The exits of making a table, and the numbers of a text that was judged.
use Prim.Native.Nat.{ℕ, ◌+◌, ◌*◌, ◌≤◌, ◌<◌}
use native.Mathlib.Omega.{arith}
use native.Mathlib.Nat.{zero-add}
use mathlib.Core.Path.{◌≡◌, sym, ap, subst, ◌∙◌}
use mathlib.Core.Bool.{true, false}
use mathlib.Core.List.{List, [], ◌∷◌, ◌++◌}
use borrow.Author.Tests.{lt-ltb, le-ltb, eq-eqb, ne_eqb}
use lib.ListN.{length, drop}
use Rattle.std.proofs.Common.{Result, Err}
use Rattle.std.specs.Result.{IsErrAnd}
use Rattle.std.proofs.lemmas.Result.{err_from_is_err_and}
use Rattle.tablemaking.specs.declared.Refusal.{Refusal}
use Rattle.rules.specs.Bytes.{two_bytes_lem}
use Rattle.text.specs.Writer.{Wrote}
use Rattle.text.proofs.Written.{all}
use Rattle.tablelines.specs.Faults.{long_text, no_room_lem}
use Rattle.tablelines.specs.Items.{items_of}
use Rattle.tablemaking.specs.Judged.{judged}
use Rattle.tablemaking.specs.Made.{headers_of, scopes_of, parts_said, scopes_said, table_said, FewRows, longest_text, TakenAs, MadeExit, MadeAs, refused, written, make_exit}
use Rattle.tablemaking.specs.Judged.{Judged}
use Rattle.tablemaking.specs.Made.{Made}
use Rattle.tablemaking.proofs.Parts.{parts_are}
use Rattle.tablemaking.proofs.Formed.{counts, no-rows-above, few-headers, few-scopes, said_fits, said-length}

-- ---- exits
pub exits : {e x : MadeExit} {r : Made} {n : List ℕ} → e ≡ x → r ≡ x.made → n ≡ x.out → MadeAs e r n
exits e a b = record { made = a ∙ sym (ap (λ (x : MadeExit). x.made) e); out = b ∙ sym (ap (λ (x : MadeExit). x.out) e) }

pub raised_line : {A : Type 0} (r : Result A Refusal) (refusal : Refusal) → IsErrAnd r (λ e. e ≡ refusal) → r ≡ Err refusal
raised_line r refusal h = let p = err_from_is_err_and r h in p.1 ∙ ap Err p.2

pub too_long : (s out : List ℕ) → longest_text < length s → make_exit s out ≡ refused long_text 0 out
unfolding make_exit
too_long s out h = rw (lt-ltb longest_text (length s) h)

module _ (s out : List ℕ) (h : length s ≤ longest_text) where
  pub bad_line : ((judged s).error ≡ 0 → ⊥) → make_exit s out ≡ refused (judged s).error (judged s).line out
  unfolding make_exit
  bad_line n = rw (le-ltb longest_text (length s) h, ne_eqb (judged s).error 0 n)

  module _ (e : (judged s).error ≡ 0) where
    pub no_room : length out < length (table_said s) → make_exit s out ≡ refused no_room_lem 0 out
    unfolding make_exit
    no_room l = rw (le-ltb longest_text (length s) h, eq-eqb (judged s).error 0 e, lt-ltb (length out) (length (table_said s)) l)

    pub with-room : length (table_said s) ≤ length out → make_exit s out ≡ written (table_said s) out
    unfolding make_exit
    with-room l = rw (le-ltb longest_text (length s) h, eq-eqb (judged s).error 0 e, le-ltb (length out) (length (table_said s)) l)

-- where there is room, the buffer begins with what was written
pub begins-with : {o t n : List ℕ} {b : ℕ} → Wrote o 0 t n b → length t ≤ length o → n ≡ t ++ drop (length t) o
begins-with {o} {t} w h = let k : 0 + length t ≤ length o = omega arith in all w k ∙ rw (zero-add (length t))

pub as_said : {o x y n : List ℕ} {a b : ℕ} → x ≡ y → Wrote o a x n b → Wrote o a y n b
as_said {o} {x} {y} {n} {a} {b} e w = subst (λ (z : List ℕ). Wrote o a z n b) e w

-- ---- a text that was judged, and is taken
module _ {s : List ℕ} {j : Judged} (T : TakenAs s j) where
  q : j ≡ judged s
  q = T.is

  pub error_said : (judged s).error ≡ 0
  error_said = ap (λ (x : Judged). x.error) (sym q) ∙ T.taken

  pub layout-byte : j.layout < 256
  layout-byte = let a : j.layout ≡ (judged s).layout = ap (λ (x : Judged). x.layout) q in omega (arith, (counts s error_said).layout)

  headers-are : j.headers ≡ length (headers_of (items_of s))
  headers-are = ap (λ (x : Judged). x.headers) q ∙ (counts s error_said).headers

  scopes-are : j.scopes ≡ length (scopes_of (items_of s))
  scopes-are = ap (λ (x : Judged). x.scopes) q ∙ (counts s error_said).scopes

  pub headers-byte : j.headers < 256
  headers-byte = let a = headers-are in omega (arith, few-headers s error_said)

  pub scopes-half : j.scopes < 65536
  scopes-half = let a = scopes-are in omega (arith, few-scopes s error_said)

  pub few : FewRows (items_of s)
  few x m = ((said_fits s error_said).scopes-fit x m).rows_fit

  pub whole : (j.layout ∷ []) ++ ((j.headers ∷ []) ++ (two_bytes_lem j.scopes ++ (parts_said false (items_of s) ++ (scopes_said (items_of s) ++ parts_said true (items_of s))))) ≡ table_said s
  whole = parts_are s j.layout j.headers j.scopes (ap (λ (x : Judged). x.layout) q) headers-are scopes-are (no-rows-above s error_said)

  pub size-said : 4 + 2 * j.headers + 5 * j.scopes + 4 * j.rows ≡ length (table_said s)
  size-said =
      let a : j.headers ≡ (judged s).headers = ap (λ (x : Judged). x.headers) q in
      let b : j.scopes ≡ (judged s).scopes = ap (λ (x : Judged). x.scopes) q in
      let d : j.rows ≡ (judged s).rows = ap (λ (x : Judged). x.rows) q in
      omega (arith, said-length s error_said)
