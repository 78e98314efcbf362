-- Turns of a walk through the scopes of two tables, and what the loops keep that count and write them.
use Prim.Native.Nat.{ℕ, suc, ◌+◌, ◌*◌, ◌^◌, ◌≤◌, ◌<◌}
use native.Mathlib.Omega.{arith}
use mathlib.Core.Path.{◌≡◌, refl, sym, ap, ◌∙◌}
use mathlib.Core.Bool.{Bool, true, false, ◌&&◌}
use mathlib.Core.List.{List, [], ◌∷◌, ◌++◌, map}
use lib.ListN.{length}
use Rattle.rules.specs.Lists.{concat, merge, agree, all, ascends}
use Rattle.rules.specs.Bytes.{byte, u16, two_bytes_lem}
use Rattle.rules.specs.CodeTable.{Tie, Scope, id_of, key, ties_at, scopes, scope_ok, row_count_lem, well_formed_lem}
use Rattle.rules.specs.Join.{join_rows, join_scope, join_scopes, same_row_lem, rows_agree, scopes_agree, scope_bytes}
use Rattle.rules.proofs.ListLaws.{and_l, and_r}
use Rattle.rules.proofs.CodeTableLaws.{formed}
use Rattle.joinlaws.proofs.MergeLaws.{Ascends}
use Rattle.joinlaws.proofs.JoinTurns.{Turn}
use Rattle.joinlaws.proofs.TableBytesLaws.{contents_bytes, length-ties_at, no-scopes}
use Rattle.joinlaws.proofs.JoinLaws.{ScopeOk, scope-ok}
use Rattle.joinlaws.proofs.JoinedLaws.{at_most, scopes-most, rows-most}
use Rattle.codetable.proofs.Steps.{scopes-next}
use Rattle.text.specs.Writer.{Wrote}
use Rattle.text.proofs.Chain.{wrote_as}
use Rattle.join.specs.declared.Scopes.{Scopes}
use Rattle.join.specs.declared.Taken.{Taken}
use Rattle.std.proofs.Common.{Option, Some, None}
use Rattle.std.specs.Option.{IsSome}
use Rattle.join.proofs.RowLaws.{some_agreed, none_agreed}
use Rattle.join.specs.declared.ScopeTurn.{ScopeTurn}
use Rattle.join.specs.Walk.{alone, Walks, rows_in_lem, RowsWalk, scopes_in, scopes_of, ScopesWalk, ScopeLeft, ReadsKey, kind_of, code_of, taken, stayed, ScopesTurn, counted, sized, size_of, Formed, Agreed}
use Rattle.join.proofs.Turns.{Front, Both, alone-more, first-turn, second-turn, both_turn, turn_as, merge-end, agree-end}
use Rattle.join.proofs.Writing.{Writing, all_left, turn-written}
use Rattle.join.proofs.RowLaws.{few-joined}

abbrev first : Tie → Tie → Tie
first r r' = r

-- the scope that is told at a place, by its kind and code as one number
abbrev here : List ℕ → Scopes → ℕ → Scope
here t a x = record { kind = kind_of x; code = code_of x; rows = rows_in_lem t (taken t a).rows }

-- ---- what is taken can be walked, its rows and what it leaves
record TakenWalk (t : List ℕ) (x : Taken) : Type 0 where
  rows : RowsWalk t x.rows
  rest : ScopesWalk t x.rest

module _ {one other : List ℕ} {x y : Taken} (v : TakenWalk one x) (w : TakenWalk other y) where
  rows_walk : Walks RowsWalk one x.rows other y.rows
  rows_walk = record { one_walk = v.rows; other_walk = w.rows }

  rest_walk : Walks ScopesWalk one x.rest other y.rest
  rest_walk = record { one_walk = v.rest; other_walk = w.rest }

none_walk : (t : List ℕ) → RowsWalk t (record { at = 0; left = 0 })
unfolding ties_at ascends
none_walk t = record { ascend = refl; few = omega arith; place = omega arith }

stayed_walk : {t : List ℕ} {a : Scopes} → ScopesWalk t a → TakenWalk t (stayed a)
stayed_walk {t} w = record { rows = none_walk t; rest = w }

-- ---- kind and code as one number, and back
module _ {t : List ℕ} {at x : ℕ} (X : ReadsKey t at x) where
  key-kind : byte t at ≡ kind_of x
  key-kind = let e = X.is in let c = X.code-small in omega arith

  key-code : u16 t (at + 1) ≡ code_of x
  key-code = let e = X.is in let c = X.code-small in omega arith

  key-small : x < 2 ^ 24
  key-small = let e = X.is in let k = X.kind-small in let c = X.code-small in omega arith

scopes-front : {t : List ℕ} {a : Scopes} {x : ℕ} → ScopesWalk t a → ReadsKey t a.at x → Front key a.left x (here t a x) (scopes_in t a) (scopes_in t (taken t a).rest)
scopes-front {t} {a} {x} w X = record {
  number = omega arith;
  next = λ h. rw (← (key-kind X), ← (key-code X)) (scopes-next t a.at a.body a.left h);
  end = λ e. no-scopes t a.at a.body a.left (omega arith);
  ascend = w.keys;
}

-- where a scope is left, it can be taken, and its rows and what it leaves can be walked
module _ {t : List ℕ} {a : Scopes} {x : ℕ} (w : ScopesWalk t a) (X : ReadsKey t a.at x) (more : 0 < a.left) where
  pub scope-left : ScopeLeft a
  scope-left = let p = w.place in let e = w.ends in record { at_small = omega arith; body-small = omega arith; more = more }

  listed : scopes_in t a ≡ here t a x ∷ scopes_in t (taken t a).rest
  listed = (scopes-front w X).next more

  oks : (scope_ok (here t a x) && all scope_ok (scopes_in t (taken t a).rest)) ≡ true
  unfolding all
  oks = rw listed at w.ok

  ok : ScopeOk (here t a x)
  ok = scope-ok (here t a x) (and_l (scope_ok (here t a x)) (all scope_ok (scopes_in t (taken t a).rest)) oks)

  counts : a.body + 4 * (u16 t (a.at + 3) + row_count_lem (scopes_in t (taken t a).rest)) ≤ 65100
  unfolding row_count_lem
  counts =
      let e : a.body + 4 * (length (rows_in_lem t (taken t a).rows) + row_count_lem (scopes_in t (taken t a).rest)) ≤ 65100 = rw listed at w.ends in
      let l = length-ties_at t a.body (u16 t (a.at + 3)) in
      omega arith

  taken_walk : Ascends key 0 (scopes_in t (taken t a).rest) → TakenWalk t (taken t a)
  taken_walk up =
      let l = length-ties_at t a.body (u16 t (a.at + 3)) in
      let f = ok.few-rows in
      let e = counts in
      let p = w.place in
      record {
        rows = record { ascend = ok.ascend; few = omega arith; place = omega arith };
        rest = record { keys = up; ok = and_r (scope_ok (here t a x)) (all scope_ok (scopes_in t (taken t a).rest)) oks; place = omega arith; ends = omega arith };
      }

-- the rows of a scope that the other table hasn't
rows-first : (t other : List ℕ) (a b : Scopes) → Ascends id_of 0 (rows_in_lem t (taken t a).rows) → rows_in_lem t (taken t a).rows ≡ join_rows (rows_in_lem t (taken t a).rows) (rows_in_lem other (stayed b).rows)
unfolding ties_at
rows-first t other a b up = sym (merge-end id_of first same_row_lem (λ x y q. refl) (rows_in_lem t (taken t a).rows) up)

agree-first : (t other : List ℕ) (a b : Scopes) → Ascends id_of 0 (rows_in_lem t (taken t a).rows) → true ≡ agree id_of same_row_lem (rows_in_lem t (taken t a).rows) (rows_in_lem other (stayed b).rows)
unfolding ties_at
agree-first t other a b up = sym (agree-end id_of first same_row_lem (λ x y q. refl) (rows_in_lem t (taken t a).rows) up)

rows-second : (t other : List ℕ) (a b : Scopes) → rows_in_lem other (taken other b).rows ≡ join_rows (rows_in_lem t (stayed a).rows) (rows_in_lem other (taken other b).rows)
unfolding ties_at merge
rows-second t other a b = refl

agree-second : (t other : List ℕ) (a b : Scopes) → true ≡ agree id_of same_row_lem (rows_in_lem t (stayed a).rows) (rows_in_lem other (taken other b).rows)
unfolding ties_at agree all
agree-second t other a b = refl

-- ---- the turns
module _ {one other : List ℕ} {a b : Scopes} {x y : ℕ} (W : Walks ScopesWalk one a other b) (X : ReadsKey one a.at x) (Y : ReadsKey other b.at y) where
  abbrev ScopeTaken : Scope → Bool → Scopes → Scopes → Type 0
  ScopeTaken s agreed a' b' = Turn key join_scope rows_agree (scopes_in one a) (scopes_in other b) s agreed (scopes_in one a') (scopes_in other b')

  pub first-scope : {front back : Taken} → alone a.left x b.left y ≡ true → front ≡ taken one a → back ≡ stayed b → ScopesTurn one a other b (record { key = x; front = front; back = back })
  first-scope e h k =
      let more = alone-more _ _ _ _ e in
      let T : ScopeTaken (here one a x) true (taken one a).rest b = first-turn (λ x y q. refl) (scopes-front W.one_walk X) (scopes-front W.other_walk Y) e in
      let w = taken_walk W.one_walk X more T.front in
      let q = rows-first one other a b w.rows.ascend in
      rw (h, k) (record {
        turn = turn_as T (λ i. record { kind = kind_of x; code = code_of x; rows = q i }) (agree-first one other a b w.rows.ascend);
        small = key-small X;
        rows = rows_walk w (stayed_walk W.other_walk);
        rest = rest_walk w (stayed_walk W.other_walk);
        fewer = omega arith;
      })

  pub second-scope : {front back : Taken} → alone b.left y a.left x ≡ true → front ≡ stayed a → back ≡ taken other b → ScopesTurn one a other b (record { key = y; front = front; back = back })
  second-scope e h k =
      let more = alone-more _ _ _ _ e in
      let T : ScopeTaken (here other b y) true a (taken other b).rest = second-turn (λ x y q. refl) (scopes-front W.one_walk X) (scopes-front W.other_walk Y) e in
      let w = taken_walk W.other_walk Y more T.back in
      let q = rows-second one other a b in
      rw (h, k) (record {
        turn = turn_as T (λ i. record { kind = kind_of y; code = code_of y; rows = q i }) (agree-second one other a b);
        small = key-small Y;
        rows = rows_walk (stayed_walk W.one_walk) w;
        rest = rest_walk (stayed_walk W.one_walk) w;
        fewer = omega arith;
      })

  pub both_scopes : {front back : Taken} → Both a.left x b.left y → front ≡ taken one a → back ≡ taken other b → ScopesTurn one a other b (record { key = x; front = front; back = back })
  both_scopes both h k =
      let l = both.first in
      let l' = both.second in
      let T : ScopeTaken (join_scope (here one a x) (here other b y)) (rows_agree (here one a x) (here other b y)) (taken one a).rest (taken other b).rest =
      both_turn (λ x y q. refl) (scopes-front W.one_walk X) (scopes-front W.other_walk Y) both in
      let v = taken_walk W.one_walk X l T.front in
      let w = taken_walk W.other_walk Y l' T.back in
      rw (h, k) (record { turn = T; small = key-small X; rows = rows_walk v w; rest = rest_walk v w; fewer = omega arith })

-- ---- the walk through a whole table, and its end
pub whole_walk : (t : List ℕ) → well_formed_lem t ≡ true → ScopesWalk t (scopes_of t)
whole_walk t w =
    let F = formed t w in
    let h = F.few-headers in
    let n = F.few-scopes in
    let e = F.ends in
    let m = at_most t w in
    record { keys = F.keys-ascend; ok = F.scopes-ok; place = omega arith; ends = omega arith }

-- from the start of two tables
module _ {one other : List ℕ} {a b : Scopes} (F : Formed one other) (A : a ≡ scopes_of one) (B : b ≡ scopes_of other) where
  pub walks-start : Walks ScopesWalk one a other b
  walks-start = rw (A, B) (record { one_walk = whole_walk one F.one-formed; other_walk = whole_walk other F.other-formed })

  all-joined : join_scopes (scopes one) (scopes other) ≡ join_scopes (scopes_in one a) (scopes_in other b)
  all-joined = rw (A, B)

  pub writing_start : {bytes : Scope → List ℕ} {old : List ℕ} {at : ℕ}
      → Writing ScopesWalk bytes one a other b old at (concat (map bytes (join_scopes (scopes one) (scopes other)))) old at (join_scopes (scopes_in one a) (scopes_in other b))
  writing_start = all_left walks-start all-joined

module _ (one : List ℕ) (a : Scopes) (other : List ℕ) (b : Scopes) (h : a.left + b.left ≤ 0) where
  pub scopes-none : join_scopes (scopes_in one a) (scopes_in other b) ≡ []
  unfolding merge
  scopes-none = rw (no-scopes one a.at a.body a.left (omega arith), no-scopes other b.at b.body b.left (omega arith))

  scopes_agreed : scopes_agree (scopes_in one a) (scopes_in other b) ≡ true
  unfolding agree all
  scopes_agreed = rw (no-scopes one a.at a.body a.left (omega arith))

-- ---- counting: what is left at a and b, with so many scopes and rows counted
pub record SizedTo (one other : List ℕ) (a b : Scopes) (scopes' rows : ℕ) : Type 0 where
  pub both_formed : Formed one other
  pub walks : Walks ScopesWalk one a other b
  pub agrees : scopes_agree (scopes one) (scopes other) ≡ scopes_agree (scopes_in one a) (scopes_in other b)
  pub many : length (join_scopes (scopes one) (scopes other)) ≡ scopes' + length (join_scopes (scopes_in one a) (scopes_in other b))
  pub many-rows : row_count_lem (join_scopes (scopes one) (scopes other)) ≡ rows + row_count_lem (join_scopes (scopes_in one a) (scopes_in other b))

pub sized-none : {one other : List ℕ} {a b : Scopes} → Formed one other → a ≡ scopes_of one → b ≡ scopes_of other → SizedTo one other a b 0 0
sized-none F A B = rw (A, B) (record { both_formed = F; walks = walks-start F refl refl; agrees = refl; many = omega arith; many-rows = omega arith })

module _ {one other : List ℕ} {a b : Scopes} {n m : ℕ} (C : SizedTo one other a b n m) where
  pub scopes-few : n ≤ 128
  scopes-few = let p = scopes-most one other C.both_formed.one-formed C.both_formed.other-formed in let i = C.many in omega arith

  pub rows_few : m ≤ 32384
  rows_few = let q = rows-most one other C.both_formed.one-formed C.both_formed.other-formed in let j = C.many-rows in omega arith

  pub sized-all : a.left + b.left ≤ 0 → sized (scopes one) (scopes other) ≡ Some (size_of n m)
  unfolding row_count_lem
  sized-all h =
      let l : length (join_scopes (scopes_in one a) (scopes_in other b)) ≡ 0 = ap length (scopes-none one a other b h) in
      let k : row_count_lem (join_scopes (scopes_in one a) (scopes_in other b)) ≡ 0 = ap row_count_lem (scopes-none one a other b h) in
      let i = C.many in
      let j = C.many-rows in
      let q : scopes_agree (scopes one) (scopes other) ≡ true = C.agrees ∙ scopes_agreed one a other b h in
      let u : length (join_scopes (scopes one) (scopes other)) ≡ n = omega arith in
      let v : row_count_lem (join_scopes (scopes one) (scopes other)) ≡ m = omega arith in
      rw (q, u, v)

  module _ {r : ScopeTurn} (T : ScopesTurn one a other b r) where
    abbrev fit : Bool
    fit = agree id_of same_row_lem (rows_in_lem one r.front.rows) (rows_in_lem other r.back.rows)

    pub sized-next : {h : ℕ} → Some h ≡ counted (rows_in_lem one r.front.rows) (rows_in_lem other r.back.rows) → SizedTo one other r.front.rest r.back.rest (n + 1) (m + h)
    unfolding row_count_lem
    sized-next {h} e =
        let k : fit ≡ true = (some_agreed fit _ e).0 in
        let c : h ≡ length (join_rows (rows_in_lem one r.front.rows) (rows_in_lem other r.back.rows)) = (some_agreed fit _ e).1 in
        let l : length (join_scopes (scopes_in one a) (scopes_in other b)) ≡ suc (length (join_scopes (scopes_in one r.front.rest) (scopes_in other r.back.rest))) = ap length T.turn.merged in
        let q : row_count_lem (join_scopes (scopes_in one a) (scopes_in other b)) ≡ length (join_rows (rows_in_lem one r.front.rows) (rows_in_lem other r.back.rows)) + row_count_lem (join_scopes (scopes_in one r.front.rest) (scopes_in other r.back.rest)) = ap row_count_lem T.turn.merged in
        let i = C.many in
        let j = C.many-rows in
        let g : scopes_agree (scopes_in one a) (scopes_in other b) ≡ scopes_agree (scopes_in one r.front.rest) (scopes_in other r.back.rest) = rw k at T.turn.agreed in
        record {
          both_formed = C.both_formed;
          walks = T.rest;
          agrees = C.agrees ∙ g;
          many = omega arith;
          many-rows = omega arith;
        }

    pub sized_clash : None ≡ counted (rows_in_lem one r.front.rows) (rows_in_lem other r.back.rows) → sized (scopes one) (scopes other) ≡ None
    sized_clash e =
        let k : fit ≡ false = none_agreed fit _ e in
        let g : scopes_agree (scopes_in one a) (scopes_in other b) ≡ false = rw k at T.turn.agreed in
        let q : scopes_agree (scopes one) (scopes other) ≡ false = C.agrees ∙ g in
        rw q

-- ---- writing the contents: where the tables agree, what is counted of a turn is what its scope has
pub record ContentsTo (one : List ℕ) (a : Scopes) (other : List ℕ) (b : Scopes) (old : List ℕ) (at : ℕ) (new : List ℕ) (next : ℕ) : Type 0 where
  pub agrees : scopes_agree (scopes_in one a) (scopes_in other b) ≡ true
  pub writing : Writing ScopesWalk scope_bytes one a other b old at (contents_bytes (join_scopes (scopes one) (scopes other))) new next (join_scopes (scopes_in one a) (scopes_in other b))

pub contents-start : {one other old : List ℕ} {a b : Scopes} {at : ℕ} → Agreed one other → a ≡ scopes_of one → b ≡ scopes_of other → ContentsTo one a other b old at old at
contents-start F A B = record { agrees = rw (A, B) F.agree-all; writing = writing_start F.formed A B }

pub here_there : {one other old new : List ℕ} {at next : ℕ} {a b : Scopes} {r : ScopeTurn} {o : Option ℕ} → ContentsTo one a other b old at new next → ScopesTurn one a other b r
    → o ≡ counted (rows_in_lem one r.front.rows) (rows_in_lem other r.back.rows) → IsSome o
here_there {one} {other} {r = r} C T O =
    let both : Bool = agree id_of same_row_lem (rows_in_lem one r.front.rows) (rows_in_lem other r.back.rows) in
    let e : both ≡ true = and_l both _ (sym T.turn.agreed ∙ C.agrees) in
    rw (O, e) refl

module _ {one other old new : List ℕ} {at next : ℕ} {a b : Scopes} {r : ScopeTurn} {o : Option ℕ} {h : ℕ}
    (C : ContentsTo one a other b old at new next) (T : ScopesTurn one a other b r) (O : o ≡ counted (rows_in_lem one r.front.rows) (rows_in_lem other r.back.rows)) (H : o ≡ Some h) where
  abbrev both_agree : Bool
  both_agree = agree id_of same_row_lem (rows_in_lem one r.front.rows) (rows_in_lem other r.back.rows)

  here-rows : h ≡ length (join_rows (rows_in_lem one r.front.rows) (rows_in_lem other r.back.rows))
  here-rows = (some_agreed both_agree _ (sym H ∙ O)).1

  pub here-few : h ≤ 506
  here-few =
      let e = here-rows in
      let l = few-joined one r.front.rows other r.back.rows in
      let p = T.rows.one_walk.few in
      let q = T.rows.other_walk.few in
      omega arith

  pub contents-next : {later : List ℕ} {then : ℕ} → Wrote new next (kind_of r.key ∷ two_bytes_lem (code_of r.key) ++ two_bytes_lem h) later then
      → ContentsTo one r.front.rest other r.back.rest old at later then
  contents-next w = record {
    agrees = and_r both_agree _ (sym T.turn.agreed ∙ C.agrees);
    writing = turn-written C.writing T.turn T.rest (wrote_as w (ap (λ (n : ℕ). kind_of r.key ∷ two_bytes_lem (code_of r.key) ++ two_bytes_lem n) here-rows));
  }
