-- "`table TABLE`: .. its scopes and rows as text ..; `table --from TEXT -o TABLE` makes a table from that text ..; the two undo each other".
use Rattle.std.specs.Prelude.{ℕ, ◌≤◌, ◌≡◌, true, List, length}
use Rattle.rules.specs.Bytes.{Bytes}
use Rattle.rules.specs.CodeTable.{well_formed_lem}
use Rattle.tabletext.specs.Text.{table_text}
use Rattle.tablemaking.specs.Judged.{judged}
use Rattle.tablemaking.specs.Made.{table_said, longest_text, written, make_exit}

-- a text is taken: no line of it breaks a rule
abbrev pub Taken : List ℕ → Type 0
Taken s = (judged s).error ≡ 0

-- the text of a table is taken, and the table comes back of it, byte for byte, wherever there is room for it
pub record TableBack (t : List ℕ) : Type 0 where
  pub taken : Taken (table_text t)
  pub back : table_said (table_text t) ≡ t
  pub made : (out : List ℕ) → length t ≤ length out → make_exit (table_text t) out ≡ written t out

-- a text that is taken says a well-formed table, which is made of it in 65,100 bytes; and the text that is shown of that table is taken and says it again
pub record TextBack (s : List ℕ) : Type 0 where
  pub bytes : Bytes (table_said s)
  pub formed : well_formed_lem (table_said s) ≡ true
  pub made : (out : List ℕ) → length s ≤ longest_text → 65100 ≤ length out → make_exit s out ≡ written (table_said s) out
  pub shown : TableBack (table_said s)

-- what is made is made of a text that is taken, and is the table that it says
pub record MadeOf (s out : List ℕ) : Type 0 where
  pub taken : Taken s
  pub is : make_exit s out ≡ written (table_said s) out

-- of every table, of every text; and no two tables have one text
pub record Undone : Type 0 where
  pub tables : (t : List ℕ) → Bytes t → well_formed_lem t ≡ true → TableBack t
  pub texts : (s : List ℕ) → Taken s → TextBack s
  pub made : (s out : List ℕ) → (make_exit s out).made.error ≡ 0 → MadeOf s out
  pub one_table : (t u : List ℕ) → Bytes t → Bytes u → well_formed_lem t ≡ true → well_formed_lem u ≡ true → table_text t ≡ table_text u → t ≡ u
