-- Wish 13 holds.
use Prim.Native.Nat.{ℕ, ◌+◌, ◌≤◌, ◌<◌}
use native.Mathlib.Omega.{arith}
use mathlib.Core.Path.{◌≡◌, refl, sym, ap, subst, ◌∙◌}
use mathlib.Core.Bool.{Bool, true, false, ◌&&◌}
use mathlib.Core.List.{List, ◌++◌}
use mathlib.Core.Logic.{◌↔◌}
use mathlib.Core.Option.{Option, none, some}
use lib.Dec.{ltb, eqb}
use lib.ListN.{length, get_or, take, drop, length-append, length-drop, take-append-drop}
use lib.Seq.{length-take-le, take_at, drop_at, get_or-take, take-append_seam}
use borrow.Author.Tests.{lt-ltb, le-ltb, ltb-true, ltb-false}
use Rattle.rules.specs.Lists.{◌>>=◌}
use Rattle.rules.specs.Bytes.{Bytes, byte}
use Rattle.rules.specs.Answer.{answer, longest}
use Rattle.rules.specs.Texts.{TextExit, text_exit, refuse}
use Rattle.rules.specs.Tree.{Entries}
use Rattle.rules.specs.Access2000.{Prop, stream_of}
use Rattle.rules.specs.CodeTable.{layout}
use Rattle.rules.specs.Blob.{is2000}
use Rattle.rules.specs.Join.{result}
use Rattle.rules.specs.Rewrite.{tree_bytes, rewritten, rewrite_by, rewrite_exit}
use Rattle.rules.specs.declared.Answer.{Answer}
use Rattle.rules.proofs.ListLaws.{none_some}
use Rattle.rules.proofs.OpenStreams.{blob_open}
use Rattle.rules.proofs.WorkedRewrite.{rewrite_open}
use Rattle.claims.specs.Demand1.{Refused, Texts}
use Rattle.claims.specs.Demand2.{Given, Spelled}
use Rattle.claims.specs.Grammar.{Stream, ◌spells◌}
use Rattle.claims.specs.Contents as read
use Rattle.claims.specs.Demand3.{Lent, exit_of2000, exit_of}
use Rattle.claims.specs.Rewriting.{RewriteAnswer, SameRows, SameReading, Rewrites, TwoSpellings, Wish13}
use Rattle.claims.proofs.Answers.{exactly, text-short, text-wrote}
use Rattle.claims.proofs.Demand2.{demand2, complete}
use Rattle.claims.proofs.Readers.{wish8}
use Rattle.claims.proofs.Shortest.{short, tree-same, short_some, Small, small-join, small_split, small_bytes, bytes_small, Better, stream_better}
use Rattle.claims.proofs.SameRows.{same_rows}

-- ---- what is seen: one of four
module _ (s out : List ℕ) where
  data Ends : TextExit → Type 0 where
    ends_5 : longest < length s → Ends (refuse 5 out)
    ends_4 : length s ≤ longest → rewritten s ≡ none → Ends (refuse 4 out)
    ends_9 : length s ≤ longest → (r : List ℕ) → rewritten s ≡ some r → length out < length r → Ends (refuse 9 out)
    ends_0 : length s ≤ longest → (r : List ℕ) → rewritten s ≡ some r → length r ≤ length out → Ends (record { answer = answer 0 (length r) 0 0; out = r ++ drop (length r) out })

  exit_5 : longest < length s → rewrite_exit s out ≡ refuse 5 out
  unfolding rewrite_exit
  exit_5 l = rw (lt-ltb longest (length s) l)

  exit_by : length s ≤ longest → (o : Option (List ℕ)) → rewritten s ≡ o → rewrite_exit s out ≡ rewrite_by o out
  unfolding rewrite_exit
  exit_by l o e = rw (le-ltb longest (length s) l, e)

  ends : Ends (rewrite_exit s out)
  ends = go (ltb longest (length s)) (rewritten s) refl refl
    where
      text : length s ≤ longest → (r : List ℕ) → rewritten s ≡ some r → (b : Bool) → ltb (length out) (length r) ≡ b → Ends (text_exit r out)
      text l r e true h = subst Ends (sym (text-short r out (ltb-true _ _ h))) (ends_9 l r e (ltb-true _ _ h))
      text l r e false h = subst Ends (sym (text-wrote r out (ltb-false _ _ h))) (ends_0 l r e (ltb-false _ _ h))

      go : (b : Bool) (o : Option (List ℕ)) → ltb longest (length s) ≡ b → rewritten s ≡ o → Ends (rewrite_exit s out)
      go true o h e = subst Ends (sym (exit_5 (ltb-true _ _ h))) (ends_5 (ltb-true _ _ h))
      go false none h e = subst Ends (sym (exit_by (ltb-false _ _ h) none e)) (ends_4 (ltb-false _ _ h) e)
      go false (some r) h e = subst Ends (sym (exit_by (ltb-false _ _ h) (some r) e)) (text (ltb-false _ _ h) r e (ltb (length out) (length r)) refl)

  -- ---- the table of answers
  nothing : stream_of s ≡ none → rewritten s ≡ none
  unfolding rewritten
  nothing e = rw e

  nothing_read : rewritten s ≡ none → stream_of s ≡ none
  unfolding rewritten
  nothing_read e = go (stream_of s) e
    where
      go : (o : Option (List Prop × Entries Prop)) → (o >>= λ x. some (take 10 s ++ tree_bytes s x)) ≡ none → o ≡ none
      go none e = refl
      go (some x) e = absurd (none_some (sym e))

  right : (a : Answer) → RewriteAnswer s out a → a ≡ (rewrite_exit s out).answer
  right _ (RewriteAnswer.five h) = sym (ap (λ x. x.answer) (exit_5 (omega arith)))
  right _ (RewriteAnswer.four l e) = sym (ap (λ x. x.answer) (exit_by (omega arith) none (nothing e)))
  right _ (RewriteAnswer.nine l {r} e h) = sym (ap (λ x. x.answer) (exit_by (omega arith) (some r) e ∙ text-short r out (omega arith)))
  right _ (RewriteAnswer.zero l {r} e h) = sym (ap (λ x. x.answer) (exit_by (omega arith) (some r) e ∙ text-wrote r out (omega arith)))

  told : (x : TextExit) → Ends x → RewriteAnswer s out x.answer
  told _ (ends_5 h) = RewriteAnswer.five (omega arith)
  told _ (ends_4 l e) = RewriteAnswer.four (omega arith) (nothing_read e)
  told _ (ends_9 l r e h) = RewriteAnswer.nine (omega arith) e (omega arith)
  told _ (ends_0 l r e h) = RewriteAnswer.zero (omega arith) e (omega arith)

  stays : (x : TextExit) → Ends x → Refused x.answer → x.out ≡ out
  stays _ (ends_5 h) n = refl
  stays _ (ends_4 l e) n = refl
  stays _ (ends_9 l r e h) n = refl
  stays _ (ends_0 l r e h) n = absurd (n refl)

  answers : Texts (RewriteAnswer s out) out (rewrite_exit s out)
  answers = record { exactly = exactly right (told _ ends); out_stays = stays _ ends }

  -- ---- what a caller has on 0
  has : (x : TextExit) → Ends x → (r : List ℕ) → result x ≡ some r → (rewritten s ≡ some r) × (length s ≤ longest) × (x.out ≡ r ++ drop (length r) out)
  has _ (ends_5 h) r q = absurd (none_some q)
  has _ (ends_4 l e) r q = absurd (none_some q)
  has _ (ends_9 l r' e h) r q = absurd (none_some q)
  has _ (ends_0 l r' e h) r q =
      let i : take (length r') (r' ++ drop (length r') out) ≡ r = cc in
      let same : r' ≡ r = sym (take-append_seam r' (drop (length r') out)) ∙ i in
      (e ∙ ap some same, l, ap (λ y. y ++ drop (length y) out) same)

  gives : (x : TextExit) → Ends x → (r : List ℕ) → rewritten s ≡ some r → length s ≤ longest → length r ≤ length out → result x ≡ some r
  gives _ (ends_5 h) r e l k = absurd (omega arith)
  gives _ (ends_4 _ e') r e l k = absurd (none_some (sym e' ∙ e))
  gives _ (ends_9 _ r' e' h) r e l k = let same : r' ≡ r = cc in absurd (omega (arith, ap length same))
  gives _ (ends_0 _ r' e' h) r e l k = let same : r' ≡ r = cc in ap some (take-append_seam r' (drop (length r') out) ∙ same)

-- ---- an accepted stream is rewritten as its ten bytes and the short spelling of what it is read as
rewritten-is : (s : List ℕ) (t : Stream) → drop 10 s spells t → rewritten s ≡ some (take 10 s ++ short t)
unfolding rewritten
rewritten-is s t h = go (stream_of s) (complete s t h)
  where
    go : (o : Option (List Prop × Entries Prop)) → (o >>= λ x. some (read.stream s x)) ≡ some t → (o >>= λ x. some (take 10 s ++ tree_bytes s x)) ≡ some (take 10 s ++ short t)
    go none e = absurd (none_some e)
    go (some x) e =
        let g : read.stream s x ≡ t = cc in
        rw (tree-same s x, g)

was_spelled : (s r : List ℕ) → Bytes s → rewritten s ≡ some r → (t : Stream) × (drop 10 s spells t)
unfolding rewritten
was_spelled s r small e = go (stream_of s) refl e
  where
    go : (o : Option (List Prop × Entries Prop)) → stream_of s ≡ o → (o >>= λ x. some (take 10 s ++ tree_bytes s x)) ≡ some r → (t : Stream) × (drop 10 s spells t)
    go none q e = absurd (none_some e)
    go (some x) q e = (read.stream s x, (demand2.read_as s small (read.stream s x)).0 (rw q))

-- bytes 0 to 9 are the same
leading-byte : (s r : List ℕ) → take 10 r ≡ take 10 s → (i : ℕ) → i < 10 → byte s i ≡ byte r i
leading-byte s r e i l = sym (get_or-take 10 s i 0 l) ∙ ap (λ z. get_or z i 0) (sym e) ∙ get_or-take 10 r i 0 l

-- what spells something has a byte after the ten
long : (s : List ℕ) (t : Stream) → drop 10 s spells t → 10 < length s
long s t h = omega (arith, short_some t, (stream_better t h).less, length-drop 10 s)

-- the reader that chooses gives what that of the layout gives
reader_same : (table s : List ℕ) (lent : Lent) → Given table s → exit_of table s lent ≡ exit_of2000 table s lent
reader_same table s lent g = (wish8.agree table s lent.controls lent.properties).for_2000 g.old-layout

module _ (s : List ℕ) (small : Bytes s) (t : Stream) (h : drop 10 s spells t) where
  abbrev r : List ℕ
  r = take 10 s ++ short t

  ten : length (take 10 s) ≡ 10
  ten = length-take-le 10 s (omega (arith, long s t h))

  better : Better (λ a. a spells t) (drop 10 s) (short t)
  better = stream_better t h

  leading : take 10 r ≡ take 10 s
  leading = take_at (take 10 s) (short t) 10 ten

  accepted : drop 10 r spells t
  accepted = rw (drop_at (take 10 s) (short t) 10 ten) better.so

  r_long : length r ≡ 10 + length (short t)
  r_long = length-append (take 10 s) (short t) ∙ ap (λ n. n + length (short t)) ten

  r_bytes : Bytes r
  r_bytes =
      let w : Small (take 10 s ++ drop 10 s) = rw (take-append-drop 10 s) (bytes_small s small) in
      let k = small_split (take 10 s) (drop 10 s) w in
      small_bytes r (small-join (take 10 s) (short t) k.0 (better.small k.1))

  no_longer : length r ≤ length s
  no_longer = omega (arith, r_long, better.less, length-drop 10 s, long s t h)

  again : rewritten r ≡ some r
  again = rewritten-is r t accepted ∙ ap (λ l. some (l ++ short t)) leading

  given_still : (table : List ℕ) → Given table s → Given table r
  unfolding is2000
  given_still table g =
      let k : 0 < length s = omega (arith, long s t h) in
      let l : 0 < length r = omega (arith, long r t accepted) in
      let o : (ltb 0 (length s) && eqb (byte s 0) (layout table)) ≡ true = g.old-layout in
      record {
        formed = g.formed;
        old-layout = rw (lt-ltb 0 (length r) l, ← (leading-byte s r leading 0 (omega arith))) (rw (lt-ltb 0 (length s) k) at o);
        not_long = omega (arith, no_longer, g.not_long);
      }

  same : (table : List ℕ) → Given table s → SameReading table s r
  same table g =
      let g' = given_still table g in
      let rows = same_rows table s r t small r_bytes g g' h accepted (leading-byte s r leading 8 (omega arith)) in
      record { given = g'; by_2000 = λ lent lent' k. subst (λ e. SameRows s r e (exit_of2000 table r lent')) (reader_same table s lent g) (subst (SameRows s r (exit_of table s lent)) (reader_same table r lent' g') (rows lent lent' k)); chosen = rows }

  rewrites-so : length s ≤ longest → Rewrites s r
  rewrites-so l = record {
    bytes = r_bytes;
    leading = leading;
    contents = t;
    spelled = h;
    accepted = accepted;
    same = same;
    no_longer = no_longer;
    again = λ out k. gives r out _ (ends r out) r again (omega (arith, no_longer)) k;
    shortest = λ u _ k. omega (arith, r_long, (stream_better t k).less, length-drop 10 u, long u t k);
  }

rewrites : (s out r : List ℕ) → Bytes s → result (rewrite_exit s out) ≡ some r → Rewrites s r
rewrites s out r small e =
    let h = has s out _ (ends s out) r e in
    let (t, k) = was_spelled s r small h.0 in
    let same : take 10 s ++ short t ≡ r = some_same (sym (rewritten-is s t k) ∙ h.0) in
    subst (Rewrites s) same (rewrites-so s small t k h.1)
  where
    some_same : {A : Type 0} {x y : A} → some x ≡ some y → x ≡ y
    some_same e = cc

beyond : (s out r : List ℕ) → result (rewrite_exit s out) ≡ some r → (rewrite_exit s out).out ≡ r ++ drop (length r) out
beyond s out r e = (has s out _ (ends s out) r e).2

refused : (s out : List ℕ) → Bytes s → length s ≤ longest → ((rewrite_exit s out).answer.number ≡ 4) ↔ (¬ Spelled s)
refused s out small l = (λ e w. none-there _ (ends s out) e w.0 w.1, λ n. four _ (ends s out) n)
  where
    none-there : (x : TextExit) → Ends s out x → x.answer.number ≡ 4 → (t : Stream) → drop 10 s spells t → ⊥
    none-there _ (ends_5 h) e t k = omega arith
    none-there _ (ends_4 _ e') e t k = none_some (sym e' ∙ rewritten-is s t k)
    none-there _ (ends_9 _ r e' h) e t k = omega arith
    none-there _ (ends_0 _ r e' h) e t k = omega arith

    four : (x : TextExit) → Ends s out x → ¬ Spelled s → x.answer.number ≡ 4
    four _ (ends_5 h) n = absurd (omega arith)
    four _ (ends_4 _ e) n = refl
    four _ (ends_9 _ r e h) n = absurd (n (was_spelled s r small e))
    four _ (ends_0 _ r e h) n = absurd (n (was_spelled s r small e))

room-enough : (s out : List ℕ) → Bytes s → length s ≤ length out → ¬ ((rewrite_exit s out).answer.number ≡ 9)
room-enough s out small l = go _ (ends s out)
  where
    go : (x : TextExit) → Ends s out x → x.answer.number ≡ 9 → ⊥
    go _ (ends_5 h) z = omega arith
    go _ (ends_4 _ e) z = omega arith
    go _ (ends_9 _ r e h) z =
        let (t, k) = was_spelled s r small e in
        let same : some r ≡ some (take 10 s ++ short t) = sym e ∙ rewritten-is s t k in
        let q : length r ≡ length (take 10 s ++ short t) = cc in
        omega (arith, no_longer s small t k)
    go _ (ends_0 _ r e h) z = omega arith

one_spelling : (s u out out' r r' : List ℕ) (t : Stream) → take 10 s ≡ take 10 u → drop 10 s spells t → drop 10 u spells t
    → result (rewrite_exit s out) ≡ some r → result (rewrite_exit u out') ≡ some r' → r ≡ r'
one_spelling s u out out' r r' t e h k f g =
    let a : rewritten s ≡ some r = (has s out _ (ends s out) r f).0 in
    let b : rewritten u ≡ some r' = (has u out' _ (ends u out') r' g).0 in
    let c : some (take 10 s ++ short t) ≡ some (take 10 u ++ short t) = ap (λ l. some (l ++ short t)) e in
    let d = rewritten-is s t h in
    let i = rewritten-is u t k in
    let z : some r ≡ some r' = sym a ∙ d ∙ c ∙ sym i ∙ b in
    cc

two_spellings : TwoSpellings
unfolding blob_open rewrite_open
two_spellings = record { same_seen = refl; read = refl; plain_stays = refl; empty_stays = refl }

pub wish13 : Wish13
wish13 = record {
  answers = answers;
  refused = refused;
  rewrites = rewrites;
  beyond = beyond;
  room-enough = room-enough;
  one_spelling = one_spelling;
  two_spellings = two_spellings;
}
