-- A table's text is taken and says the table: what its lines say, that no rule is broken, and the promises.
use Prim.Native.Nat.{ℕ, zero, suc, ◌+◌, ◌≤◌, ◌<◌}
use native.Mathlib.Omega.{arith}
use mathlib.Core.Path.{◌≡◌, refl, sym, ap, ◌∙◌}
use mathlib.Core.Bool.{Bool, true, false, cond}
use mathlib.Core.List.{List, [], ◌∷◌, ◌++◌, map, append_assoc}
use lib.Dec.{leb, ltb, eqb}
use lib.ListN.{length}
use borrow.Author.Tests.{leb-true, ltb-true, lt-ltb, le-ltb, ne_eqb, eq-eqb, eqb-true, eqb-false}
use Rattle.rules.specs.Lists.{all, ascends}
use Rattle.rules.specs.Bytes.{Bytes, u16}
use Rattle.rules.specs.CodeTable.{Tie, Scope, id_of, key_of, key, layout, header_count, scope_count, contents_at, bodies_at, header, scopes, codes_at, tie_ok, scope_ok, well_formed_lem}
use Rattle.rules.proofs.ListLaws.{and_l, and_r}
use Rattle.rules.proofs.CodeTableLaws.{formed}
use Rattle.joinlaws.proofs.TableBytesLaws.{length-codes_at, length-scopes_at, written-again}
use Rattle.joinlaws.proofs.JoinedLaws.{u16-small, codes_small}
use Rattle.joinlaws.proofs.JoinLaws.{scope-ok, code_fits_lem}
use Rattle.tabletext.specs.Text.{row_line, row_lines, scope_lines, header_line, header_lines, table_text}
use Rattle.tabletext.proofs.Longest.{longest-table}
use Rattle.tablelines.specs.Faults.{long_text, no_room_lem}
use Rattle.tablelines.specs.Words.{lines_of}
use Rattle.tablelines.specs.Items.{items_of}
use Rattle.tablelines.specs.Items.{Item}
use Rattle.tablelines.specs.Items.{Nothing, Layout, Header, Scope as ScopeLine, Row}
use Rattle.std.proofs.Common.{Some}
use Rattle.tablemaking.specs.Judged.{nothing_seen, with_layout, with_header, with_scope, with_row, after, header_fault, scope_fault, row_fault, below_layout, layout_fault, fault_of, judge_end, judge_from, judged}
use Rattle.tablemaking.specs.Made.{by_part_lem, headers_of, rows_of, scopes_of, table_said, longest_text, MadeExit, refused, written, make_exit}
use Rattle.tablemaking.specs.Undone.{Taken, TableBack, MadeOf, Undone}
use Rattle.tablemaking.specs.declared.Seen.{Seen}
use Rattle.tablemaking.specs.Judged.{Judged}
use Rattle.tablemaking.proofs.Formed.{said-formed, said-short}
use Rattle.tablemaking.proofs.SaidBytes.{said-bytes}
use Rattle.tablemaking.proofs.TextLines.{layout-said, header-said, row-said, scope-said}

-- ---- the items of a table's text
abbrev row_item : Tie → Item
row_item r = Row r.id r.target r.kind

unfoldable scope_items : List Scope → List Item
scope_items [] = []
scope_items (s ∷ ss) = Nothing ∷ ScopeLine s.kind s.code ∷ (map row_item s.rows ++ scope_items ss)

abbrev small : ℕ → Bool
small c = ltb c 65536

headers-said : (cs rest : List ℕ) → all small cs ≡ true → items_of (header_lines cs ++ rest) ≡ map Header cs ++ items_of rest
unfolding header_lines all
headers-said [] rest h = refl
headers-said (c ∷ cs) rest h =
    ap items_of (append_assoc (header_line c) (header_lines cs) rest)
    ∙ header-said c (header_lines cs ++ rest) (ltb-true c 65536 (and_l (small c) (all small cs) h))
    ∙ ap (λ l. Header c ∷ l) (headers-said cs rest (and_r (small c) (all small cs) h))

-- the limits of a row
record RowOk (r : Tie) : Type 0 where
  low : r.id ≤ 0xFC
  low-target : r.target < 0x8000
  low-kind : r.kind ≤ 4

row_ok : (r : Tie) → tie_ok r ≡ true → RowOk r
row_ok r e = record {
  low = leb-true r.id 0xFC (search (and_l, and_r));
  low-target = ltb-true r.target 0x8000 (search (and_l, and_r));
  low-kind = leb-true r.kind 4 (search (and_l, and_r));
}

rows-said : (rs : List Tie) (rest : List ℕ) → all tie_ok rs ≡ true → items_of (row_lines rs ++ rest) ≡ map row_item rs ++ items_of rest
unfolding row_lines all
rows-said [] rest h = refl
rows-said (r ∷ rs) rest h =
    let o = row_ok r (and_l (tie_ok r) (all tie_ok rs) h) in
    let i : r.id < 256 = let a = o.low in omega arith in
    let t : r.target < 65536 = let a = o.low-target in omega arith in
    ap items_of (append_assoc (row_line r) (row_lines rs) rest)
    ∙ row-said r (row_lines rs ++ rest) i t o.low-kind
    ∙ ap (λ l. row_item r ∷ l) (rows-said rs rest (and_r (tie_ok r) (all tie_ok rs) h))

scopes-said : (ss : List Scope) → all scope_ok ss ≡ true → all code_fits_lem ss ≡ true → items_of (scope_lines ss) ≡ scope_items ss
unfolding scope_lines scope_items all items_of lines_of
scopes-said [] o f = refl
scopes-said (s ∷ ss) o f =
    let ok = scope-ok s (and_l (scope_ok s) (all scope_ok ss) o) in
    scope-said s.kind s.code (row_lines s.rows ++ scope_lines ss) ok.small-kind ok.its-code (ltb-true s.code 65536 (and_l (code_fits_lem s) (all code_fits_lem ss) f))
    ∙ ap (λ l. Nothing ∷ ScopeLine s.kind s.code ∷ l)
    (rows-said s.rows (scope_lines ss) ok.ties
    ∙ ap (λ l. map row_item s.rows ++ l) (scopes-said ss (and_r (scope_ok s) (all scope_ok ss) o) (and_r (code_fits_lem s) (all code_fits_lem ss) f)))

-- ---- what they say together
no-headers : (rs : List Tie) (items : List Item) → headers_of (map row_item rs ++ items) ≡ headers_of items
unfolding by_part_lem headers_of
no-headers [] items = refl
no-headers (r ∷ rs) items = no-headers rs items

scopes-no-headers : (ss : List Scope) → headers_of (scope_items ss) ≡ []
unfolding by_part_lem headers_of scope_items
scopes-no-headers [] = refl
scopes-no-headers (s ∷ ss) = no-headers s.rows (scope_items ss) ∙ scopes-no-headers ss

headers-back : (cs : List ℕ) (items : List Item) → headers_of items ≡ [] → headers_of (map Header cs ++ items) ≡ cs
unfolding by_part_lem headers_of
headers-back [] items e = e
headers-back (c ∷ cs) items e = ap (λ l. c ∷ l) (headers-back cs items e)

scopes-no-rows : (ss : List Scope) → rows_of (scope_items ss) ≡ []
unfolding by_part_lem rows_of scope_items
scopes-no-rows [] = refl
scopes-no-rows (s ∷ ss) = refl

rows_back : (rs : List Tie) (items : List Item) → rows_of items ≡ [] → rows_of (map row_item rs ++ items) ≡ rs
unfolding by_part_lem rows_of
rows_back [] items e = e
rows_back (r ∷ rs) items e = ap (λ l. r ∷ l) (rows_back rs items e)

rows-no-scopes : (rs : List Tie) (items : List Item) → scopes_of (map row_item rs ++ items) ≡ scopes_of items
unfolding by_part_lem scopes_of
rows-no-scopes [] items = refl
rows-no-scopes (r ∷ rs) items = rows-no-scopes rs items

headers-no-scopes : (cs : List ℕ) (items : List Item) → scopes_of (map Header cs ++ items) ≡ scopes_of items
unfolding by_part_lem scopes_of
headers-no-scopes [] items = refl
headers-no-scopes (c ∷ cs) items = headers-no-scopes cs items

scopes-back : (ss : List Scope) → scopes_of (scope_items ss) ≡ ss
unfolding by_part_lem scopes_of scope_items
scopes-back [] = refl
scopes-back (s ∷ ss) =
    let a : rows_of (map row_item s.rows ++ scope_items ss) ≡ s.rows = rows_back s.rows (scope_items ss) (scopes-no-rows ss) in
    let b : scopes_of (map row_item s.rows ++ scope_items ss) ≡ ss = rows-no-scopes s.rows (scope_items ss) ∙ scopes-back ss in
    rw (a, b)

-- ---- no rule is broken
record Keeps (x : ℕ) (j : Judged) : Type 0 where
  none : j.error ≡ 0
  layout : j.layout ≡ x

keeps_line : (x : ℕ) (seen : Seen) (lines : ℕ) (item : Item) (items : List Item) → fault_of seen item ≡ 0
    → Keeps x (judge_from (after seen item) (lines + 1) items) → Keeps x (judge_from seen lines (item ∷ items))
unfolding judge_from
keeps_line x seen lines item items e k = rw (eq-eqb (fault_of seen item) 0 e) k

-- the layout is named, n scopes stand above, and the next one's key is k at least
record Amid (x n k : ℕ) (seen : Seen) : Type 0 where
  layout : seen.layout ≡ Some x
  scopes : seen.scopes ≡ n
  least : seen.least_key ≡ k

module _ (x : ℕ) (named : x < 256) where
  below : (seen : Seen) (fault : ℕ) → seen.layout ≡ Some x → fault ≡ 0 → below_layout seen fault ≡ 0
  unfolding below_layout
  below seen fault l e = rw l e

  header-kept : (seen : Seen) (c : ℕ) → seen.layout ≡ Some x → seen.scopes ≡ 0 → seen.least_header ≤ c → seen.headers ≤ 3 → fault_of seen (Header c) ≡ 0
  unfolding fault_of header_fault
  header-kept seen c l n h f = below seen (header_fault seen c) l (rw (le-ltb 0 seen.scopes (omega arith), le-ltb c seen.least_header h, le-ltb 3 seen.headers f))

  scope_kept : (seen : Seen) (kind code : ℕ) → seen.layout ≡ Some x → seen.least_key ≤ key_of kind code → seen.scopes ≤ 63 → fault_of seen (ScopeLine kind code) ≡ 0
  unfolding fault_of scope_fault
  scope_kept seen kind code l h f = below seen (scope_fault seen (key_of kind code)) l (rw (le-ltb (key_of kind code) seen.least_key h, le-ltb 63 seen.scopes f))

  row_kept : (seen : Seen) (r : Tie) → seen.layout ≡ Some x → 0 < seen.scopes → seen.least_id ≤ r.id → RowOk r → fault_of seen (row_item r) ≡ 0
  unfolding fault_of row_fault
  row_kept seen r l n h o =
      let t : r.target ≤ 0x7FFF = let a = o.low-target in omega arith in
      below seen (row_fault seen r.id r.target) l
      (rw (ne_eqb seen.scopes 0 (λ z. omega arith), le-ltb 0xFC r.id o.low, le-ltb r.id seen.least_id h, le-ltb 0x7FFF r.target t))

  keeps_rows : (n k : ℕ) (rs : List Tie) (items : List Item) (seen : Seen) (lines : ℕ) → 0 < n → Amid x n k seen → ascends seen.least_id (map id_of rs) ≡ true → all tie_ok rs ≡ true
      → ((now : Seen) (at : ℕ) → Amid x n k now → Keeps x (judge_from now at items)) → Keeps x (judge_from seen lines (map row_item rs ++ items))
  unfolding ascends all after
  keeps_rows n k [] items seen lines p A a o K = K seen lines A
  keeps_rows n k (r ∷ rs) items seen lines p A a o K =
      let m = A.scopes in
      keeps_line x seen lines (row_item r) (map row_item rs ++ items)
      (row_kept seen r A.layout (omega arith) (leb-true seen.least_id r.id (and_l (leb seen.least_id r.id) (ascends (r.id + 1) (map id_of rs)) a)) (row_ok r (and_l (tie_ok r) (all tie_ok rs) o)))
      (keeps_rows n k rs items (with_row seen r.id) (lines + 1) p (record { layout = A.layout; scopes = A.scopes; least = A.least })
      (and_r (leb seen.least_id r.id) (ascends (r.id + 1) (map id_of rs)) a) (and_r (tie_ok r) (all tie_ok rs) o) K)

  keeps_end : (seen : Seen) (lines : ℕ) → seen.layout ≡ Some x → Keeps x (judge_from seen lines [])
  unfolding judge_from judge_end
  keeps_end seen lines l = rw l (record { none = refl; layout = refl })

  keeps_scopes : (n k : ℕ) (ss : List Scope) (seen : Seen) (lines : ℕ) → Amid x n k seen → n + length ss ≤ 64 → ascends k (map key ss) ≡ true → all scope_ok ss ≡ true
      → Keeps x (judge_from seen lines (scope_items ss))
  unfolding ascends all after fault_of scope_items
  keeps_scopes n k [] seen lines A f a o = keeps_end seen lines A.layout
  keeps_scopes n k (s ∷ ss) seen lines A f a o =
      let ok = scope-ok s (and_l (scope_ok s) (all scope_ok ss) o) in
      let up : k ≤ key s = leb-true k (key s) (and_l (leb k (key s)) (ascends (key s + 1) (map key ss)) a) in
      let m = A.scopes in
      let e = A.least in
      keeps_line x seen lines Nothing (ScopeLine s.kind s.code ∷ (map row_item s.rows ++ scope_items ss)) refl
      (keeps_line x seen (lines + 1) (ScopeLine s.kind s.code) (map row_item s.rows ++ scope_items ss)
      (scope_kept seen s.kind s.code A.layout (omega arith) (omega arith))
      (keeps_rows (n + 1) (key s + 1) s.rows (scope_items ss) (with_scope seen (key s)) (lines + 1 + 1) (omega arith)
      (record { layout = A.layout; scopes = omega arith; least = refl }) ok.ascend ok.ties
      (λ now at B. keeps_scopes (n + 1) (key s + 1) ss now at B (omega arith) (and_r (leb k (key s)) (ascends (key s + 1) (map key ss)) a) (and_r (scope_ok s) (all scope_ok ss) o))))

  keeps_headers : (cs : List ℕ) (items : List Item) (seen : Seen) (lines : ℕ) → Amid x 0 0 seen → seen.headers + length cs ≤ 4 → ascends seen.least_header cs ≡ true
      → ((now : Seen) (at : ℕ) → Amid x 0 0 now → Keeps x (judge_from now at items)) → Keeps x (judge_from seen lines (map Header cs ++ items))
  unfolding ascends after
  keeps_headers [] items seen lines A f a K = K seen lines A
  keeps_headers (c ∷ cs) items seen lines A f a K =
      keeps_line x seen lines (Header c) (map Header cs ++ items)
      (header-kept seen c A.layout A.scopes (leb-true seen.least_header c (and_l (leb seen.least_header c) (ascends (c + 1) cs) a)) (omega arith))
      (keeps_headers cs items (with_header seen c) (lines + 1) (record { layout = A.layout; scopes = A.scopes; least = A.least }) (omega arith)
      (and_r (leb seen.least_header c) (ascends (c + 1) cs) a) K)

  keeps_table : (cs : List ℕ) (ss : List Scope) → length cs ≤ 4 → length ss ≤ 64 → ascends 0 cs ≡ true → ascends 0 (map key ss) ≡ true → all scope_ok ss ≡ true
      → Keeps x (judge_from nothing_seen 0 (Layout x ∷ (map Header cs ++ scope_items ss)))
  unfolding after fault_of layout_fault
  keeps_table cs ss f g a b o =
      keeps_line x nothing_seen 0 (Layout x) (map Header cs ++ scope_items ss) refl
      (keeps_headers cs (scope_items ss) (with_layout nothing_seen x) 1 (record { layout = refl; scopes = refl; least = refl }) (omega arith) a
      (λ now at A. keeps_scopes 0 0 ss now at A (omega arith) b o))

-- ---- a well-formed table of bytes
header_codes_small : (t : List ℕ) → Bytes t → (at n : ℕ) → all small (codes_at t at n) ≡ true
unfolding codes_at all
header_codes_small t B at zero = refl
header_codes_small t B at (suc n) = rw (lt-ltb (u16 t at) 65536 (u16-small t at B)) (header_codes_small t B (at + 2) n)

module _ (t : List ℕ) (B : Bytes t) (w : well_formed_lem t ≡ true) where
  text-items : items_of (table_text t) ≡ Layout (layout t) ∷ (map Header (header t) ++ scope_items (scopes t))
  unfolding table_text
  text-items =
      layout-said (layout t) (header_lines (header t) ++ scope_lines (scopes t)) (B 0)
      ∙ ap (λ l. Layout (layout t) ∷ l)
      (headers-said (header t) (scope_lines (scopes t)) (header_codes_small t B 4 (header_count t))
      ∙ ap (λ l. map Header (header t) ++ l) (scopes-said (scopes t) (formed t w).scopes-ok (codes_small t B (contents_at t) (bodies_at t) (scope_count t))))

  text-kept : Keeps (layout t) (judged (table_text t))
  unfolding judged
  text-kept =
      let F = formed t w in
      let h = F.few-headers in
      let n = F.few-scopes in
      let lh = length-codes_at t 4 (header_count t) in
      let ls = length-scopes_at t (contents_at t) (bodies_at t) (scope_count t) in
      rw text-items (keeps_table (layout t) (B 0) (header t) (scopes t) (omega arith) (omega arith) F.header-ascends F.keys-ascend F.scopes-ok)

  text-headers : headers_of (items_of (table_text t)) ≡ header t
  unfolding by_part_lem headers_of
  text-headers = rw text-items (headers-back (header t) (scope_items (scopes t)) (scopes-no-headers (scopes t)))

  text-scopes : scopes_of (items_of (table_text t)) ≡ scopes t
  unfolding by_part_lem scopes_of
  text-scopes = rw text-items (headers-no-scopes (header t) (scope_items (scopes t)) ∙ scopes-back (scopes t))

  said-back : table_said (table_text t) ≡ t
  unfolding table_said
  said-back = rw (text-kept.layout, text-headers, text-scopes) (written-again t B w)

  made-back : (out : List ℕ) → length t ≤ length out → make_exit (table_text t) out ≡ written t out
  unfolding make_exit
  made-back out room =
      let l : length (table_text t) ≤ longest_text = let m = longest-table t w in omega arith in
      rw (le-ltb longest_text (length (table_text t)) l, text-kept.none, said-back, le-ltb (length out) (length t) room)

  pub table-back : TableBack t
  table-back = record { taken = text-kept.none; back = said-back; made = made-back }

-- ---- what is made
text-made : (s out : List ℕ) → Taken s → length s ≤ longest_text → 65100 ≤ length out → make_exit s out ≡ written (table_said s) out
unfolding make_exit
text-made s out e l room =
    let n : length (table_said s) ≤ length out = let m = said-short s e in omega arith in
    rw (le-ltb longest_text (length s) l, e, le-ltb (length out) (length (table_said s)) n)

made_of : (s out : List ℕ) → (make_exit s out).made.error ≡ 0 → MadeOf s out
unfolding make_exit
made_of s out = go (ltb longest_text (length s)) (eqb (judged s).error 0) refl (ltb (length out) (length (table_said s))) refl
  where
    exit : Bool → Bool → Bool → MadeExit
    exit a b c = cond a (refused long_text 0 out) (cond b (cond c (refused no_room_lem 0 out) (written (table_said s) out)) (refused (judged s).error (judged s).line out))

    go : (a b : Bool) → eqb (judged s).error 0 ≡ b → (c : Bool) → make_exit s out ≡ exit a b c → (exit a b c).made.error ≡ 0 → MadeOf s out
    go true b q c h e = absurd (omega arith)
    go false true q true h e = absurd (omega arith)
    go false true q false h e = record { taken = eqb-true (judged s).error 0 q; is = h }
    go false false q c h e = absurd (eqb-false (judged s).error 0 q e)

-- ---- the promises
pub undone : Undone
undone = record {
  tables = table-back;
  texts = λ s e. record {
    bytes = said-bytes s e;
    formed = said-formed s e;
    made = λ out l room. text-made s out e l room;
    shown = table-back (table_said s) (said-bytes s e) (said-formed s e);
  };
  made = made_of;
  one_table = λ t u T U v w e. sym (table-back t T v).back ∙ ap table_said e ∙ (table-back u U w).back;
}
