-- Wishes 9 and 12 hold.
use Prim.Native.Nat.{ℕ, ◌≤◌}
use native.Mathlib.Omega.{arith}
use mathlib.Core.Path.{◌≡◌, refl, sym, ap, subst, ◌∙◌}
use mathlib.Core.Bool.{Bool, true, false, cond, not, ◌&&◌, true≢false}
use mathlib.Core.List.{List, ◌++◌}
use mathlib.Core.Logic.{◌⊎◌, inl, inr, ◌↔◌}
use mathlib.Core.Option.{Option, none, some}
use lib.Dec.{ltb}
use lib.ListN.{length, drop}
use borrow.Author.Tests.{lt-ltb, le-ltb, ltb-true, ltb-false}
use Rattle.rules.specs.Lists.{◌>>=◌}
use Rattle.rules.specs.Bytes.{Bytes}
use Rattle.rules.specs.Answer.{answer}
use Rattle.rules.specs.CodeTable.{Tie, Scope, scopes, well_formed_lem, Holds}
use Rattle.rules.specs.Read2000.{Spot}
use Rattle.rules.specs.Texts.{TextExit, text_exit, refuse}
use Rattle.rules.specs.Join.{join_scopes, scopes_agree, table_bytes, same_head_lem, joined, join_exit, result}
use Rattle.rules.specs.declared.Answer.{Answer}
use Rattle.rules.proofs.ListLaws.{and_l, and_r, none_some}
use Rattle.joinlaws.proofs.TableBytesLaws.{layout-back, header-back, scopes-read, table-formed, written-again}
use Rattle.joinlaws.proofs.JoinLaws.{good_fits}
use Rattle.joinlaws.proofs.JoinedLaws.{head-same, same_head, at_most, Joins, exit_joins, result_joins, layout-joined, header-joined, scopes-joined, formed-joined, bytes-joined, joins_result, joins_itself, joined_itself, exit_turned, grouped, regrouped}
use Rattle.joinlaws.proofs.LongestTable.{longest, longest-formed, longest-length, longest-bytes}
use Rattle.joinlaws.proofs.ClashLaws.{apart_rows, agreed_rows}
use Rattle.joinlaws.proofs.JoinedHolds.{joined-scope, joined-row, extends-first, extends-second}
use Rattle.claims.specs.Demand1.{Refused}
use Rattle.claims.specs.Demand3.{Successor, Learned, RowSays, Lent, SameRoom}
use Rattle.claims.specs.Joining.{Table, Roomy, Sayable, Says, Alike, Clash, JoinAnswer, Together, Gains, Longest, Wish9, Wish12}
use Rattle.claims.proofs.Answers.{exactly, text-short, text-wrote}
use Rattle.claims.proofs.Demand1.{text_stays}
use Rattle.claims.proofs.Demand3.{demand3}

-- ---- wish 12
enough : (out : List ℕ) → Roomy out → 65100 ≤ length out
enough out h = omega arith

with_itself : (t out : List ℕ) → Table t → Roomy out → result (join_exit t t out) ≡ some t
with_itself t out T room = joins_result t t out T.bytes T.bytes (enough out room) (joins_itself t T.formed) ∙ ap some (joined_itself t T.bytes T.formed)

-- what is missing or there on both sides is the same
some_iff : {A : Type 0} (o o' : Option A) → ((x : A) → o ≡ some x → o' ≡ some x) → ((x : A) → o' ≡ some x → o ≡ some x) → o ≡ o'
some_iff none none f g = refl
some_iff none (some x) f g = g x refl
some_iff (some x) o' f g = sym (f x refl)

-- where both came to something
bind_some : {A B : Type 0} (o : Option A) (f : A → Option B) (r : B) → (o >>= f) ≡ some r → (x : A) × (o ≡ some x) × (f x ≡ some r)
bind_some none f r e = absurd (none_some e)
bind_some (some x) f r e = (x, refl, e)

module _ (a b out out' : List ℕ) (A : Table a) (B : Table b) (room : Roomy out) (room' : Roomy out') where
  same-result : (r : List ℕ) → result (join_exit a b out) ≡ some r → result (join_exit a b out') ≡ some r
  same-result r e =
      let j = result_joins a b out r e in
      joins_result a b out' A.bytes B.bytes (enough out' room') j.0 ∙ ap some (sym j.1)

two_orders : (a b out out' : List ℕ) → Table a → Table b → Roomy out → Roomy out' → result (join_exit a b out) ≡ result (join_exit b a out')
two_orders a b out out' A B room room' =
    some_iff _ _ (same-result a b out out' A B room room') (same-result a b out' out A B room' room) ∙ ap result (exit_turned a b out')

module _ (a b c o₁ o₃ : List ℕ) (o₂ o₄ : List ℕ → List ℕ) (A : Table a) (B : Table b) (C : Table c) (r₁ : Roomy o₁) (r₂ : (t : List ℕ) → Roomy (o₂ t)) (r₃ : Roomy o₃) (r₄ : (t : List ℕ) → Roomy (o₄ t)) where
  abbrev Left : Option (List ℕ)
  Left = result (join_exit a b o₁) >>= λ ab. result (join_exit ab c (o₂ ab))

  abbrev Right : Option (List ℕ)
  Right = result (join_exit b c o₃) >>= λ bc. result (join_exit a bc (o₄ bc))

  to_right : (r : List ℕ) → Left ≡ some r → Right ≡ some r
  to_right r e =
      let h = bind_some (result (join_exit a b o₁)) (λ ab. result (join_exit ab c (o₂ ab))) r e in
      let j = result_joins a b o₁ h.0 h.1 in
      let k = result_joins h.0 c (o₂ h.0) r h.2 in
      let k' : Joins (joined a b) c = subst (λ (t : List ℕ). Joins t c) j.1 k.0 in
      let q : r ≡ joined (joined a b) c = k.1 ∙ ap (λ (t : List ℕ). joined t c) j.1 in
      let g = grouped a b c A.bytes B.bytes C.bytes j.0 k' in
      rw (joins_result b c o₃ B.bytes C.bytes (enough o₃ r₃) g.last-two)
      (joins_result a (joined b c) (o₄ (joined b c)) A.bytes (bytes-joined b c B.bytes C.bytes g.last-two) (enough (o₄ (joined b c)) (r₄ (joined b c))) g.first-to_them
      ∙ ap some (sym g.same_bytes ∙ sym q))

  to-left : (r : List ℕ) → Right ≡ some r → Left ≡ some r
  to-left r e =
      let h = bind_some (result (join_exit b c o₃)) (λ bc. result (join_exit a bc (o₄ bc))) r e in
      let j = result_joins b c o₃ h.0 h.1 in
      let k = result_joins a h.0 (o₄ h.0) r h.2 in
      let k' : Joins a (joined b c) = subst (λ (t : List ℕ). Joins a t) j.1 k.0 in
      let q : r ≡ joined a (joined b c) = k.1 ∙ ap (λ (t : List ℕ). joined a t) j.1 in
      let w = regrouped a b c A.bytes B.bytes C.bytes j.0 k' in
      let g = grouped a b c A.bytes B.bytes C.bytes w.0 w.1 in
      rw (joins_result a b o₁ A.bytes B.bytes (enough o₁ r₁) w.0)
      (joins_result (joined a b) c (o₂ (joined a b)) (bytes-joined a b A.bytes B.bytes w.0) C.bytes (enough (o₂ (joined a b)) (r₂ (joined a b))) w.1
      ∙ ap some (g.same_bytes ∙ sym q))

  two_groupings : Left ≡ Right
  two_groupings = some_iff Left Right to_right to-left

-- ---- wish 9
together : (a b out t : List ℕ) → Bytes a → Bytes b → result (join_exit a b out) ≡ some t → Together a b t
together a b out t A B e =
    let h = result_joins a b out t e in
    subst (λ (u : List ℕ). Together a b u) (sym h.1) (made h.0)
  where
    made : Joins a b → Together a b (joined a b)
    made j = record {
      bytes = bytes-joined a b A B j;
      says = record { formed = formed-joined a b A B j; its-layout = layout-joined a b A B j; its-header = header-joined a b A B j; its-scopes = scopes-joined a b A B j };
      scope = joined-scope a b A B j;
      row = joined-row a b A B j;
      after_a = record {
        older-formed = j.formed_a;
        newer-formed = formed-joined a b A B j;
        one-layout = sym (layout-joined a b A B j);
        same-header = sym (header-joined a b A B j);
        holds_every_row = extends-first a b A B j;
      };
      after_b = record {
        older-formed = j.formed_b;
        newer-formed = formed-joined a b A B j;
        one-layout = sym j.one-layout ∙ sym (layout-joined a b A B j);
        same-header = sym j.same-header ∙ sym (header-joined a b A B j);
        holds_every_row = extends-second a b A B j;
      };
      short = let l = at_most (joined a b) (formed-joined a b A B j) in omega arith;
    }

-- ---- what an office gains: a row that the joined table holds and its own hasn't is the other's
module _ (own other t s : List ℕ) (two : Successor own t) (rows : (kind code : ℕ) (r : Tie) → Holds t kind code r ↔ (Holds own kind code r ⊎ Holds other kind code r)) where
  to-joined : (x : Spot) → Learned own other x → Learned own t x
  to-joined x l = record { row = l.row; newer-has = (rows _ _ l.row).1 (inr l.newer-has); its-code = l.its-code; older_hasn't = l.older_hasn't }

  to-other : (x : Spot) → Learned own t x → Learned own other x
  to-other x l = record { row = l.row; newer-has = theirs ((rows _ _ l.row).0 l.newer-has); its-code = l.its-code; older_hasn't = l.older_hasn't }
    where
      theirs : Holds own x.scope.kind x.scope.code l.row ⊎ Holds other x.scope.kind x.scope.code l.row → Holds other x.scope.kind x.scope.code l.row
      theirs (inl h) = absurd (l.older_hasn't l.row h l.its-code)
      theirs (inr h) = h

  row_gained : (x : Spot) (old new : List ℕ) → RowSays own t s x old new → RowSays own other s x old new
  unfolding to-joined
  row_gained x old new r = record {
    exactly = (λ h. to-other x (r.exactly.0 h), λ l. r.exactly.1 (to-joined x l));
    else_same = λ n. r.else_same (λ l. n (to-other x l));
    older-shows = λ l. r.older-shows (to-joined x l);
    newer-shows = λ l. r.newer-shows (to-joined x l);
  }

  gains : (lent lent' : Lent) → SameRoom lent lent' → Gains own other t s lent lent'
  gains lent lent' same = record {
    by_codes = λ o. let d = demand3.chosen-same_but own t s lent lent' two same o in
        record { alike = d.alike; a_row-each = d.a_row-each; rows = λ e i h. row_gained _ _ _ (d.rows e i h) };
    later_same = demand3.later_same own t s lent lent' two same;
  }

either_way : {P Q R : Type 0} → P ↔ (Q ⊎ R) → P ↔ (R ⊎ Q)
either_way h = (λ p. turned (h.0 p), λ q. h.1 (turned q))
  where
    turned : {X Y : Type 0} → X ⊎ Y → Y ⊎ X
    turned (inl x) = inr x
    turned (inr y) = inl y

read_back : (first : ℕ) (codes : List ℕ) (ss : List Scope) → Sayable codes ss → Says (table_bytes first codes ss) first codes ss
read_back first codes ss y =
    let f = good_fits codes ss (record { keys = y.keys-ascend; ok = y.scopes-ok }) y.few-scopes y.codes_fit y.scope_codes_fit in
    record {
      formed = table-formed first codes ss f y.few_codes y.few-scopes y.codes_ascend y.keys-ascend y.scopes-ok;
      its-layout = layout-back first codes ss f;
      its-header = header-back first codes ss f;
      its-scopes = scopes-read first codes ss f;
    }

text_out : (t out r : List ℕ) → result (text_exit t out) ≡ some r → (text_exit t out).out ≡ t ++ drop (length t) out
unfolding text_exit
text_out t out r e = go (ltb (length out) (length t)) e
  where
    go : (s : Bool) → result (cond s (refuse 9 out) (record { answer = answer 0 (length t) 0 0; out = t ++ drop (length t) out })) ≡ some r
        → (cond s (refuse 9 out) (record { answer = answer 0 (length t) 0 0; out = t ++ drop (length t) out })).out ≡ t ++ drop (length t) out
    go true q = absurd (none_some q)
    go false q = refl

behind : (a b out t : List ℕ) → result (join_exit a b out) ≡ some t → (join_exit a b out).out ≡ t ++ drop (length t) out
behind a b out t e =
    let h = result_joins a b out t e in
    let x : join_exit a b out ≡ text_exit (joined a b) out = exit_joins a b out h.0 in
    let w : (join_exit a b out).out ≡ joined a b ++ drop (length (joined a b)) out = ap (λ (y : TextExit). y.out) x ∙ text_out (joined a b) out t (sym (ap result x) ∙ e) in
    subst (λ (u : List ℕ). (join_exit a b out).out ≡ u ++ drop (length u) out) (sym h.1) w

-- ---- the answers
module _ (a b : List ℕ) (l : Alike a b) where
  fa : well_formed_lem a ≡ true
  fa = and_l (well_formed_lem a) (well_formed_lem b) l.formed

  fb : well_formed_lem b ≡ true
  fb = and_r (well_formed_lem a) (well_formed_lem b) l.formed

  no_clash : scopes_agree (scopes a) (scopes b) ≡ true → ¬ Clash a b
  no_clash g c = c.differ (agreed_rows a b g c.in_a c.in_b c.one-id)

  clash : scopes_agree (scopes a) (scopes b) ≡ false → Clash a b
  clash g =
      let c = apart_rows a b fa fb g in
      record { kind = c.kind; code = c.code; row = c.row; row' = c.other; in_a = c.in_one; in_b = c.in_other; one-id = c.one-id; differ = c.differ }

is_false : (s : Bool) → (s ≡ true → ⊥) → s ≡ false
is_false true h = absurd (h refl)
is_false false h = refl

is_true : (s : Bool) → (s ≡ false → ⊥) → s ≡ true
is_true true h = refl
is_true false h = absurd (h refl)

module _ (a b out : List ℕ) where
  abbrev many : ℕ
  many = length (join_scopes (scopes a) (scopes b))

  -- what is left after 17, 16 and 8 were passed
  abbrev after17 : TextExit
  after17 = cond (ltb 64 many) (refuse 18 out) (text_exit (joined a b) out)

  abbrev after16 : TextExit
  after16 = cond (not (scopes_agree (scopes a) (scopes b))) (refuse 17 out) after17

  abbrev after8 : TextExit
  after8 = cond (not (same_head_lem a b)) (refuse 16 out) after16

  -- ---- the answer is in the table
  told9 : Alike a b → ¬ Clash a b → many ≤ 64 → JoinAnswer a b out (text_exit (joined a b) out).answer
  unfolding text_exit
  told9 l n h = go (ltb (length out) (length (joined a b))) refl
    where
      go : (s : Bool) → ltb (length out) (length (joined a b)) ≡ s
          → JoinAnswer a b out (cond s (refuse 9 out) (record { answer = answer 0 (length (joined a b)) 0 0; out = joined a b ++ drop (length (joined a b)) out })).answer
      go true e = JoinAnswer.nine l n h (ltb-true _ _ e)
      go false e = JoinAnswer.zero l n h (ltb-false _ _ e)

  told18 : Alike a b → ¬ Clash a b → JoinAnswer a b out after17.answer
  told18 l n = go (ltb 64 many) refl
    where
      go : (s : Bool) → ltb 64 many ≡ s → JoinAnswer a b out (cond s (refuse 18 out) (text_exit (joined a b) out)).answer
      go true e = JoinAnswer.eighteen l n (ltb-true _ _ e)
      go false e = told9 l n (ltb-false _ _ e)

  told17 : Alike a b → JoinAnswer a b out after16.answer
  told17 l = go (scopes_agree (scopes a) (scopes b)) refl
    where
      go : (s : Bool) → scopes_agree (scopes a) (scopes b) ≡ s → JoinAnswer a b out (cond (not s) (refuse 17 out) after17).answer
      go true e = told18 l (no_clash a b l e)
      go false e = JoinAnswer.seventeen l (clash a b l e)

  told16 : (well_formed_lem a && well_formed_lem b) ≡ true → JoinAnswer a b out after8.answer
  told16 w = go (same_head_lem a b) refl
    where
      go : (s : Bool) → same_head_lem a b ≡ s → JoinAnswer a b out (cond (not s) (refuse 16 out) after16).answer
      go true e = let h = same_head a b e in told17 (record { formed = w; one-layout = h.0; same-header = h.1 })
      go false e = JoinAnswer.sixteen w (λ h. true≢false (sym (head-same a b h.0 h.1) ∙ e))

  told : JoinAnswer a b out (join_exit a b out).answer
  unfolding join_exit
  told = go (well_formed_lem a && well_formed_lem b) refl
    where
      go : (s : Bool) → (well_formed_lem a && well_formed_lem b) ≡ s → JoinAnswer a b out (cond (not s) (refuse 8 out) after8).answer
      go true e = told16 e
      go false e = JoinAnswer.eight e

  -- ---- what the table says is the answer
  alike : Alike a b → (join_exit a b out).answer ≡ after16.answer
  unfolding join_exit
  alike l = rw (l.formed, head-same a b l.one-layout l.same-header)

  agreed : Alike a b → ¬ Clash a b → (join_exit a b out).answer ≡ after17.answer
  agreed l n = alike l ∙ rw (is_true (scopes_agree (scopes a) (scopes b)) (λ e. n (clash a b l e)))

  right : (r : Answer) → JoinAnswer a b out r → r ≡ (join_exit a b out).answer
  unfolding join_exit
  right _ (JoinAnswer.eight w) = rw w
  right _ (JoinAnswer.sixteen w h) = rw (w, is_false (same_head_lem a b) (λ e. h (same_head a b e)))
  right _ (JoinAnswer.seventeen l c) = sym (alike l ∙ rw (is_false (scopes_agree (scopes a) (scopes b)) (λ e. no_clash a b l e c)))
  right _ (JoinAnswer.eighteen l n h) = sym (agreed l n ∙ rw (lt-ltb 64 many h))
  right _ (JoinAnswer.nine l n h k) = sym (agreed l n ∙ rw (le-ltb 64 many h) (ap (λ (x : TextExit). x.answer) (text-short (joined a b) out k)))
  right _ (JoinAnswer.zero l n h k) = sym (agreed l n ∙ rw (le-ltb 64 many h) (ap (λ (x : TextExit). x.answer) (text-wrote (joined a b) out k)))

  -- ---- a refusal writes nothing
  abbrev Stays : TextExit → Type 0
  Stays e = Refused e.answer → e.out ≡ out

  stays : (n : ℕ) (e : TextExit) → Stays e → (s : Bool) → Stays (cond s (refuse n out) e)
  stays n e h true r = refl
  stays n e h false r = h r

  out_stays : Stays (join_exit a b out)
  unfolding join_exit
  out_stays =
      stays 8 after8 (stays 16 after16 (stays 17 after17 (stays 18 (text_exit (joined a b) out) (text_stays (joined a b) out)
      (ltb 64 many)) (not (scopes_agree (scopes a) (scopes b)))) (not (same_head_lem a b))) (not (well_formed_lem a && well_formed_lem b))

-- ---- room
module _ (a b out : List ℕ) (A : Bytes a) (B : Bytes b) (room : Roomy out) where
  short : Alike a b → ¬ Clash a b → length (join_scopes (scopes a) (scopes b)) ≤ 64 → length (joined a b) ≤ 65100
  short l n h = at_most (joined a b) (formed-joined a b A B (record {
    formed_a = fa a b l;
    formed_b = fb a b l;
    one-layout = l.one-layout;
    same-header = l.same-header;
    agreed = is_true (scopes_agree (scopes a) (scopes b)) (λ e. n (clash a b l e));
    few = h;
  }))

  never-nine : (r : Answer) → JoinAnswer a b out r → ¬ (r.number ≡ 9)
  never-nine _ (JoinAnswer.eight w) e = absurd (omega arith)
  never-nine _ (JoinAnswer.sixteen w h) e = absurd (omega arith)
  never-nine _ (JoinAnswer.seventeen l c) e = absurd (omega arith)
  never-nine _ (JoinAnswer.eighteen l n h) e = absurd (omega arith)
  never-nine _ (JoinAnswer.nine l n h k) e = let s = short l n h in absurd (omega arith)
  never-nine _ (JoinAnswer.zero l n h k) e = absurd (omega arith)

longest-there : Longest
longest-there = record {
  table = longest;
  is-table = T;
  its-length = longest-length;
  no_less = λ out h.
      let j = joins_itself longest longest-formed in
      let l : length (joined longest longest) ≡ 65100 = ap length (joined_itself longest longest-bytes longest-formed) ∙ longest-length in
      ap (λ (x : TextExit). x.answer) (exit_joins longest longest out j ∙ text-short (joined longest longest) out (omega arith));
}
  where
    T : Table longest
    T = record { bytes = longest-bytes; formed = longest-formed }

pub wish12 : Wish12
wish12 = record {
  with_itself = with_itself;
  two_orders = two_orders;
  same-exit = exit_turned;
  two_groupings = two_groupings;
  room-enough = λ a b out A B room. never-nine a b out A B room (join_exit a b out).answer (told a b out);
  no_less_room = longest-there;
}

pub wish9 : Wish9
wish9 = record {
  answers = λ a b out. record { exactly = exactly (right a b out) (told a b out); out_stays = out_stays a b out };
  together = together;
  first_gains = λ a b out t s lent lent' A B e same. let j = together a b out t A B e in gains a b t s j.after_a j.row lent lent' same;
  second_gains = λ a b out t s lent lent' A B e same. let j = together a b out t A B e in gains b a t s j.after_b (λ kind code r. either_way (j.row kind code r)) lent lent' same;
  behind = behind;
  written-again = λ t T. written-again t T.bytes T.formed;
  read_back = read_back;
}
