-- Scopes gone through one after another for the first row that isn't passed over, and what is found: a successor has no such row.
use Prim.Native.Nat.{ℕ, ◌+◌, ◌*◌, ◌-◌, ◌≤◌, ◌<◌, ◌^◌}
use native.Mathlib.Omega.{arith}
use mathlib.Core.Path.{◌≡◌, refl, sym, ap, subst, ◌∙◌}
use mathlib.Core.Bool.{Bool, true, false, not, cond, ◌&&◌, true≢false}
use mathlib.Core.List.{List, [], ◌∷◌, Memᴰ}
use mathlib.Core.Option.{Option, none, some}
use Rattle.rules.specs.Lists.{all, find}
use Rattle.rules.specs.CodeTable.{Tie, Scope, is_tied, ties_at, scopes_at, scopes, scope_rows, row_of}
use Rattle.rules.specs.Join.{same_head_lem}
use Rattle.rules.specs.Differences.{has_row, has_scope, succeeds}
use Rattle.rules.proofs.ListLaws.{none_some, all_there}
use Rattle.joinlaws.proofs.TableBytesLaws.{no-scopes}
use Rattle.joinlaws.proofs.JoinLaws.{row_itself}
use Rattle.codetable.proofs.Steps.{ScopeRead, Counts, scopes-next}
use Rattle.succession.specs.declared.Lack as told
use Rattle.std.proofs.Common as std
use Rattle.std.specs.Option.{is_some}
use Rattle.succession.specs.Lacks.{Lack, passes, or_else, rows_other, scopes_other, scopes_lack, Lacks}
use Rattle.succession.specs.Found.{as_lack}

-- so many scopes are left, and all rows of those in front of them are passed over
pub record ScopesTo (missing : Bool) (newer older : List ℕ) (place body left : ℕ) : Type 0 where
  pub ends : place + 5 * left < 2 ^ 32
  pub bodies_end : body + 262144 * left < 2 ^ 58
  pub rest : scopes_other missing newer (scopes older) ≡ scopes_other missing newer (scopes_at older place body left)

pub no-scope_tried : (missing : Bool) (newer : List ℕ) {older : List ℕ} {h n : ℕ} → Counts older h n → h < 256 → n < 65536 → ScopesTo missing newer older (4 + 2 * h) (4 + 2 * h + 5 * n) n
no-scope_tried missing newer C a b = record { ends = omega arith; bodies_end = omega arith; rest = rw (C.headers-is, C.scopes-is) }

module _ {missing : Bool} {newer older : List ℕ} {place body left : ℕ} (K : ScopesTo missing newer older place body left) where
  pub all-scopes_tried : left ≤ 0 → scopes_other missing newer (scopes older) ≡ none
  unfolding scopes_other
  all-scopes_tried h = K.rest ∙ rw (no-scopes older place body left h)

  module _ {k c n : ℕ} {rs : List Tie} {p : std.Option told.Lack} (R : ScopeRead older place left k c n) (er : rs ≡ scope_rows newer k c) (e : p ≡ as_lack (rows_other missing k c rs (ties_at older body n))) where
    abbrev later : Option Lack
    later = scopes_other missing newer (scopes_at older (place + 5) (body + 4 * n) (left - 1))

    next : scopes_other missing newer (scopes older) ≡ or_else (rows_other missing k c rs (ties_at older body n)) later
    unfolding scopes_other
    next = K.rest ∙ rw (scopes-next older place body left R.more, ← R.kind-is, ← R.code_is, ← R.count-is, ← er)

    pub scope-told : is_some p ≡ true → p ≡ as_lack (scopes_other missing newer (scopes older))
    unfolding as_lack
    scope-told f = rw next (go (rows_other missing k c rs (ties_at older body n)) e)
      where
        go : (o : Option Lack) → p ≡ as_lack o → p ≡ as_lack (or_else o later)
        go none g = absurd (true≢false (sym f ∙ ap (λ (z : std.Option told.Lack). is_some z) g))
        go (some x) g = g

    pub scope-passes : n < 65536 → is_some p ≡ false → ScopesTo missing newer older (place + 5) (body + 4 * n) (left - 1)
    unfolding as_lack
    scope-passes few f =
        let a = K.ends in
        let b = K.bodies_end in
        let m = R.more in
        record { ends = omega arith; bodies_end = omega arith; rest = next ∙ go (rows_other missing k c rs (ties_at older body n)) e }
      where
        go : (o : Option Lack) → p ≡ as_lack o → or_else o later ≡ later
        go none g = refl
        go (some x) g = absurd (true≢false (sym (ap (λ (z : std.Option told.Lack). is_some z) g) ∙ f))

-- ---- none is found where all are passed over; so a successor is one that has all
abbrev is_none : {A : Type 0} → Option A → Bool
is_none none = true
is_none (some x) = false

abbrev pass_row : Bool → List ℕ → ℕ → ℕ → Tie → Bool
pass_row missing newer kind code r = passes missing r (row_of newer kind code r.id)

abbrev pass_scope : Bool → List ℕ → Scope → Bool
pass_scope missing newer s = all (pass_row missing newer s.kind s.code) s.rows

rows_all : (missing : Bool) (newer : List ℕ) (kind code : ℕ) (rs : List Tie) → is_none (rows_other missing kind code (scope_rows newer kind code) rs) ≡ all (pass_row missing newer kind code) rs
unfolding rows_other row_of all
rows_all missing newer kind code [] = refl
rows_all missing newer kind code (r ∷ rs) = go (passes missing r (find (is_tied r.id) (scope_rows newer kind code))) (rows_all missing newer kind code rs)
  where
    go : (b : Bool) → is_none (rows_other missing kind code (scope_rows newer kind code) rs) ≡ all (pass_row missing newer kind code) rs
        → is_none (cond b (rows_other missing kind code (scope_rows newer kind code) rs) (some (record { kind = kind; code = code; row = r; other = find (is_tied r.id) (scope_rows newer kind code) })))
        ≡ (b && all (pass_row missing newer kind code) rs)
    go true e = e
    go false e = refl

scopes-all : (missing : Bool) (newer : List ℕ) (ss : List Scope) → is_none (scopes_other missing newer ss) ≡ all (pass_scope missing newer) ss
unfolding scopes_other all
scopes-all missing newer [] = refl
scopes-all missing newer (s ∷ ss) = ors (rows_other missing s.kind s.code (scope_rows newer s.kind s.code) s.rows) ∙ (λ i. rows_all missing newer s.kind s.code s.rows i && scopes-all missing newer ss i)
  where
    ors : (o : Option Lack) → is_none (or_else o (scopes_other missing newer ss)) ≡ (is_none o && is_none (scopes_other missing newer ss))
    ors none = refl
    ors (some x) = refl

pub none_other : (missing : Bool) (newer : List ℕ) (ss : List Scope) (s : Scope) (r : Tie) → scopes_other missing newer ss ≡ none → Memᴰ s ss → Memᴰ r s.rows
    → passes missing r (row_of newer s.kind s.code r.id) ≡ true
none_other missing newer ss s r e m n =
    all_there (pass_row missing newer s.kind s.code) s.rows r (all_there (pass_scope missing newer) ss s (sym (scopes-all missing newer ss) ∙ ap is_none e) m) n

module _ (older newer : List ℕ) where
  pub other-head : same_head_lem older newer ≡ false → succeeds older newer ≡ false
  unfolding succeeds
  other-head e = rw e

  pub same_head : same_head_lem older newer ≡ true → {p : std.Option told.Lack} {r : Bool} → p ≡ as_lack (scopes_lack newer (scopes older)) → is_some p ≡ not r → r ≡ succeeds older newer
  unfolding succeeds has_scope has_row
  same_head e {p = p} {r = r} g h = rw e (turned r _ h ∙ go (scopes_lack newer (scopes older)) g ∙ scopes-all true newer (scopes older))
    where
      go : (o : Option Lack) → p ≡ as_lack o → not (is_some p) ≡ is_none o
      go none q = unfold as_lack in ap (λ (z : std.Option told.Lack). not (is_some z)) q
      go (some x) q = unfold as_lack in ap (λ (z : std.Option told.Lack). not (is_some z)) q

      turned : (r b : Bool) → b ≡ not r → r ≡ not b
      turned true b q = sym (ap not q)
      turned false b q = sym (ap not q)

-- ---- what is found is a row of the older table for which the newer has another or none
record InRows (missing : Bool) (kind code : ℕ) (rs' rs : List Tie) (l : Lack) : Type 0 where
  its-kind : l.kind ≡ kind
  its-code : l.code ≡ code
  row : Memᴰ l.row rs
  other : l.other ≡ find (is_tied l.row.id) rs'
  not_held : passes missing l.row l.other ≡ false

in_rows : (missing : Bool) (kind code : ℕ) (rs' rs : List Tie) (l : Lack) → rows_other missing kind code rs' rs ≡ some l → InRows missing kind code rs' rs l
unfolding rows_other
in_rows missing kind code rs' [] l e = absurd (none_some e)
in_rows missing kind code rs' (r ∷ rs) l e = go (passes missing r (find (is_tied r.id) rs')) refl e (in_rows missing kind code rs' rs l)
  where
    this : Lack
    this = record { kind = kind; code = code; row = r; other = find (is_tied r.id) rs' }

    go : (b : Bool) → passes missing r (find (is_tied r.id) rs') ≡ b → cond b (rows_other missing kind code rs' rs) (some this) ≡ some l
        → (rows_other missing kind code rs' rs ≡ some l → InRows missing kind code rs' rs l) → InRows missing kind code rs' (r ∷ rs) l
    go true q h rec = let i = rec h in record { its-kind = i.its-kind; its-code = i.its-code; row = Memᴰ.tail i.row; other = i.other; not_held = i.not_held }
    go false q h rec =
        let i : this ≡ l = cc in
        subst (λ (x : Lack). InRows missing kind code rs' (r ∷ rs) x) i (record { its-kind = refl; its-code = refl; row = Memᴰ.head refl; other = refl; not_held = q })

record InScopes (missing : Bool) (newer : List ℕ) (ss : List Scope) (l : Lack) : Type 0 where
  scope : Scope
  listed : Memᴰ scope ss
  found : InRows missing scope.kind scope.code (scope_rows newer scope.kind scope.code) scope.rows l

in_scopes : (missing : Bool) (newer : List ℕ) (ss : List Scope) (l : Lack) → scopes_other missing newer ss ≡ some l → InScopes missing newer ss l
unfolding scopes_other
in_scopes missing newer [] l e = absurd (none_some e)
in_scopes missing newer (s ∷ ss) l e = go (rows_other missing s.kind s.code (scope_rows newer s.kind s.code) s.rows) refl e (in_scopes missing newer ss l)
  where
    go : (o : Option Lack) → rows_other missing s.kind s.code (scope_rows newer s.kind s.code) s.rows ≡ o → or_else o (scopes_other missing newer ss) ≡ some l
        → (scopes_other missing newer ss ≡ some l → InScopes missing newer ss l) → InScopes missing newer (s ∷ ss) l
    go none q h rec = let i = rec h in record { scope = i.scope; listed = Memᴰ.tail i.listed; found = i.found }
    go (some x) q h rec = record { scope = s; listed = Memᴰ.head refl; found = in_rows missing s.kind s.code (scope_rows newer s.kind s.code) s.rows l (q ∙ h) }

passes_itself : (missing : Bool) (r : Tie) → passes missing r (some r) ≡ true
passes_itself true r = row_itself r
passes_itself false r = row_itself r

module _ (missing : Bool) (older newer : List ℕ) (l : Lack) (e : scopes_other missing newer (scopes older) ≡ some l) where
  pub found_lacks : Lacks older newer l
  unfolding row_of
  found_lacks =
      let i = in_scopes missing newer (scopes older) l e in
      let f = i.found in
      record {
        held = record { scope = i.scope; listed = i.listed; its-kind = sym f.its-kind; its-code = sym f.its-code; row = f.row };
        looked_up = f.other ∙ (λ j. find (is_tied l.row.id) (scope_rows newer (sym f.its-kind j) (sym f.its-code j)));
        other_row = λ q. true≢false (sym (passes_itself missing l.row) ∙ sym (ap (passes missing l.row) q) ∙ f.not_held);
      }

  pub found-other : passes missing l.row l.other ≡ false
  found-other = (in_scopes missing newer (scopes older) l e).found.not_held
