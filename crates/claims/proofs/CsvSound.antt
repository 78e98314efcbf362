-- What the reader of comma-separated text accepts is written so.
use Prim.Native.Nat.{ℕ, zero, suc, ◌+◌, ◌<◌}
use native.Mathlib.Omega.{arith}
use mathlib.Core.Path.{◌≡◌, refl, sym, ap, ◌∙◌}
use mathlib.Core.Bool.{Bool, true, false, cond, not, ◌&&◌, ◌||◌}
use mathlib.Core.List.{List, [], ◌∷◌, ◌++◌, append_assoc, append-nil}
use mathlib.Core.Option.{Option, none, some}
use lib.Dec.{ltb, eqb}
use lib.ListN.{length}
use borrow.Author.Tests.{ltb-true, eqb-true, eqb-false}
use Rattle.rules.specs.Csv.{comma, quote, cr, lf, crlf, is_data, Record, fields, all_fields, field_end, step, Fields, new_field, with_byte, at_end, after, read_from, fields_of}
use Rattle.rules.specs.declared.Mode.{Mode}
use Rattle.rules.specs.declared.Mode.TheVariants.{Start, Plain, Quoted, Closing, Returned}
use Rattle.rules.specs.declared.Step.{Step}
use Rattle.rules.proofs.ListLaws.{Every, every_if, every_at, and_l, and_r}
use Rattle.claims.specs.Ways.{Way, bytes, just, nothing, byte, ◌then◌, in_turn, first, second, with}
use Rattle.claims.specs.CsvGrammar.{Data, non_escaped, in_quotes, field, five, others, ending, sheet, ◌spells◌}

-- ---- text data
data_then : {b : ℕ} (x y z w : Bool) → eqb b comma ≡ x → eqb b quote ≡ y → eqb b cr ≡ z → eqb b lf ≡ w → not (x || y || z || w) ≡ true → Data b
data_then false false false false p q r s e = record { no-comma = eqb-false _ _ p; no-quote = eqb-false _ _ q; no-cr = eqb-false _ _ r; no-lf = eqb-false _ _ s }
data_then true y z w p q r s e = absurd (let n : ◌≡◌ {A = ℕ} 0 1 = cc in omega arith)
data_then false true z w p q r s e = absurd (let n : ◌≡◌ {A = ℕ} 0 1 = cc in omega arith)
data_then false false true w p q r s e = absurd (let n : ◌≡◌ {A = ℕ} 0 1 = cc in omega arith)
data_then false false false true p q r s e = absurd (let n : ◌≡◌ {A = ℕ} 0 1 = cc in omega arith)

pub is_data_lem : {b : ℕ} → is_data b ≡ true → Data b
unfolding is_data
is_data_lem {b} e = data_then (eqb b comma) (eqb b quote) (eqb b cr) (eqb b lf) refl refl refl refl e

-- ---- what is left of a text after the field k of a record
data Shut : ℕ → Fields → List ℕ → Type 0 where
  end : {k : ℕ} → k ≡ 4 → Shut k [] []
  last : {k : ℕ} → k ≡ 4 → Shut k [] crlf
  next : {k : ℕ} {f : List ℕ} {fs : Fields} (a t : List ℕ) → k < 4 → field f a → Shut (k + 1) fs t → Shut k (f ∷ fs) (comma ∷ a ++ t)
  line : {k : ℕ} {f : List ℕ} {fs : Fields} (a t : List ℕ) → k ≡ 4 → field f a → Shut 0 fs t → Shut k (f ∷ fs) (cr ∷ lf ∷ a ++ t)

-- and from each place on
data Means : Mode → ℕ → Fields → List ℕ → Type 0 where
  no_more : {k : ℕ} → k ≡ 0 → Means Start k [] []
  from_start : {k : ℕ} {f : List ℕ} {fs : Fields} (a t : List ℕ) → field f a → Shut k fs t → Means Start k (f ∷ fs) (a ++ t)
  in_plain : {k : ℕ} {f : List ℕ} {fs : Fields} (a t : List ℕ) → non_escaped f a → Shut k fs t → Means Plain k (f ∷ fs) (a ++ t)
  in_quoted : {k : ℕ} {f : List ℕ} {fs : Fields} (a t : List ℕ) → in_quotes f a → Shut k fs t → Means Quoted k (f ∷ fs) (a ++ quote ∷ t)
  closed : {k : ℕ} {fs : Fields} {t : List ℕ} → Shut k fs t → Means Closing k ([] ∷ fs) t
  doubled : {k : ℕ} {f : List ℕ} {fs : Fields} (a t : List ℕ) → in_quotes f a → Shut k fs t → Means Closing k ((quote ∷ f) ∷ fs) (quote ∷ a ++ quote ∷ t)
  behind-cr : {k : ℕ} {fs : Fields} {t : List ℕ} → Means Start 0 fs t → Means Returned k fs (lf ∷ t)

-- a field that is done, and what is after it
data Done : ℕ → Fields → List ℕ → Type 0 where
  done : {k : ℕ} {fs : Fields} {t : List ℕ} → Shut k fs t → Done k ([] ∷ fs) t

-- ---- by the way that the reader is put together
abbrev Rest : Type 0
Rest = Mode → ℕ → Option Fields

step_if : (P : Fields → Type 0) (b : ℕ) (rest : Rest) (c : Bool) (x y : Step) → (c ≡ true → Every P (after x b rest)) → (c ≡ false → Every P (after y b rest)) → Every P (after (cond c x y) b rest)
step_if P b rest true x y f g = f refl
step_if P b rest false x y f g = g refl

every_as : (P Q : Fields → Type 0) (o : Option Fields) → ((fs : Fields) → Q fs → P fs) → Every Q o → Every P o
every_as P Q none f h = tt
every_as P Q (some fs) f h = f fs h

every_put : (P Q : Fields → Type 0) (b : ℕ) (o : Option Fields) → ((f : List ℕ) (fs : Fields) → Q (f ∷ fs) → P ((b ∷ f) ∷ fs)) → Every Q o → Every P (with_byte b o)
every_put P Q b none f h = tt
every_put P Q b (some []) f h = tt
every_put P Q b (some (g ∷ fs)) f h = f g fs h

every_new : (P Q : Fields → Type 0) (o : Option Fields) → ((fs : Fields) → Q fs → P ([] ∷ fs)) → Every Q o → Every P (new_field o)
every_new P Q none f h = tt
every_new P Q (some fs) f h = f fs h

-- ---- a byte, before what follows it
opened : {k : ℕ} {fs : Fields} {s : List ℕ} → Means Quoted k fs s → Means Start k fs (quote ∷ s)
unfolding field
opened (in_quoted a t h e) = rw append_assoc at (from_start (quote ∷ a ++ (quote ∷ [])) t (second (in_turn just (in_turn h just))) e)

begun : {k : ℕ} {fs : Fields} {s : List ℕ} {b : ℕ} {f : List ℕ} → Data b → Means Plain k (f ∷ fs) s → Means Start k ((b ∷ f) ∷ fs) (b ∷ s)
unfolding field non_escaped
begun {b} d (in_plain a t h e) = from_start (b ∷ a) t (first (with d (in_turn just h))) e

more-plain : {k : ℕ} {fs : Fields} {s : List ℕ} {b : ℕ} {f : List ℕ} → Data b → Means Plain k (f ∷ fs) s → Means Plain k ((b ∷ f) ∷ fs) (b ∷ s)
unfolding non_escaped
more-plain {b} d (in_plain a t h e) = in_plain (b ∷ a) t (with d (in_turn just h)) e

ended : {k : ℕ} {fs : Fields} {s : List ℕ} → Means Closing k fs s → Means Quoted k fs (quote ∷ s)
unfolding in_quotes
ended (closed e) = in_quoted [] _ just e
ended (doubled a t h e) = in_quoted (quote ∷ quote ∷ a) t (in_turn (second (with refl just)) h) e

more-quoted : {k : ℕ} {fs : Fields} {s : List ℕ} {b : ℕ} {f : List ℕ} → (b ≡ quote → ⊥) → Means Quoted k (f ∷ fs) s → Means Quoted k ((b ∷ f) ∷ fs) (b ∷ s)
unfolding in_quotes
more-quoted {b} n (in_quoted a t h e) = in_quoted (b ∷ a) t (in_turn (first (with n just)) h) e

again : {k : ℕ} {fs : Fields} {s : List ℕ} {f : List ℕ} → Means Quoted k (f ∷ fs) s → Means Closing k ((quote ∷ f) ∷ fs) (quote ∷ s)
again (in_quoted a t h e) = doubled a t h e

-- no byte of the field
at-start : {k : ℕ} {fs : Fields} {s : List ℕ} → Done k fs s → Means Start k fs s
unfolding field non_escaped
at-start (done e) = from_start [] _ (first just) e

at_plain : {k : ℕ} {fs : Fields} {s : List ℕ} → Done k fs s → Means Plain k fs s
unfolding non_escaped
at_plain (done e) = in_plain [] _ just e

at_closing : {k : ℕ} {fs : Fields} {s : List ℕ} → Done k fs s → Means Closing k fs s
at_closing (done e) = closed e

-- ---- a byte
after-comma : (k : ℕ) (s : List ℕ) (fs : Fields) → k < 4 → Means Start (k + 1) fs s → Done k ([] ∷ fs) (comma ∷ s)
after-comma k _ _ h (no_more e) = absurd (omega arith)
after-comma k _ _ h (from_start a t x y) = done (next a t h x y)

after_line : (s : List ℕ) (fs : Fields) → Means Start 0 fs s → Done 4 ([] ∷ fs) (cr ∷ lf ∷ s)
after_line _ _ (no_more e) = done (last refl)
after_line _ _ (from_start a t x y) = done (line a t refl x y)

after-cr : (s : List ℕ) (fs : Fields) → Means Returned 0 fs s → Done 4 ([] ∷ fs) (cr ∷ s)
after-cr _ fs (behind-cr {t = t} m) = after_line t fs m

module _ (b : ℕ) (s : List ℕ) (hyp : (q : Mode) (j : ℕ) → Every (λ fs. Means q j fs s) (read_from q j s)) where
  abbrev rest : Rest
  rest q j = read_from q j s

  behind_sound : (k : ℕ) → Every (λ fs. Done k fs (b ∷ s)) (after (field_end k b) b rest)
  unfolding field_end
  behind_sound k =
      step_if (λ fs. Done k fs (b ∷ s)) b rest (eqb b comma && ltb k 4) _ _
      (λ t. let e : b ≡ comma = eqb-true _ _ (and_l (eqb b comma) (ltb k 4) t) in
      every_new (λ fs. Done k fs (b ∷ s)) (λ fs. Means Start (k + 1) fs s) (read_from Start (k + 1) s)
      (λ fs m. rw e (after-comma k s fs (ltb-true _ _ (and_r (eqb b comma) (ltb k 4) t)) m)) (hyp Start (k + 1)))
      λ _.
      step_if (λ fs. Done k fs (b ∷ s)) b rest (eqb b cr && eqb k 4) _ _
      (λ t. let e : b ≡ cr = eqb-true _ _ (and_l (eqb b cr) (eqb k 4) t) in
      let n : k ≡ 4 = eqb-true _ _ (and_r (eqb b cr) (eqb k 4) t) in
      every_new (λ fs. Done k fs (b ∷ s)) (λ fs. Means Returned 0 fs s) (read_from Returned 0 s)
      (λ fs m. rw (e, n) (after-cr s fs m)) (hyp Returned 0))
      λ _. tt

  start_sound : (k : ℕ) → Every (λ fs. Means Start k fs (b ∷ s)) (after (step Start k b) b rest)
  unfolding step field non_escaped
  start_sound k =
      step_if (λ fs. Means Start k fs (b ∷ s)) b rest (eqb b quote) _ _
      (λ t. every_as _ (λ fs. Means Quoted k fs s) (read_from Quoted k s) (λ fs m. rw (eqb-true b quote t) (opened m)) (hyp Quoted k))
      λ _.
      step_if (λ fs. Means Start k fs (b ∷ s)) b rest (is_data b) _ _
      (λ t. every_put _ (λ fs. Means Plain k fs s) b (read_from Plain k s) (λ f fs m. begun (is_data_lem t) m) (hyp Plain k))
      λ _. every_as _ (λ fs. Done k fs (b ∷ s)) (after (field_end k b) b rest) (λ fs d. at-start d) (behind_sound k)

  plain_sound : (k : ℕ) → Every (λ fs. Means Plain k fs (b ∷ s)) (after (step Plain k b) b rest)
  unfolding step non_escaped
  plain_sound k =
      step_if (λ fs. Means Plain k fs (b ∷ s)) b rest (is_data b) _ _
      (λ t. every_put _ (λ fs. Means Plain k fs s) b (read_from Plain k s) (λ f fs m. more-plain (is_data_lem t) m) (hyp Plain k))
      λ _. every_as _ (λ fs. Done k fs (b ∷ s)) (after (field_end k b) b rest) (λ fs d. at_plain d) (behind_sound k)

  quoted_sound : (k : ℕ) → Every (λ fs. Means Quoted k fs (b ∷ s)) (after (step Quoted k b) b rest)
  unfolding step in_quotes
  quoted_sound k =
      step_if (λ fs. Means Quoted k fs (b ∷ s)) b rest (eqb b quote) _ _
      (λ t. every_as _ (λ fs. Means Closing k fs s) (read_from Closing k s) (λ fs m. rw (eqb-true b quote t) (ended m)) (hyp Closing k))
      λ t. every_put _ (λ fs. Means Quoted k fs s) b (read_from Quoted k s) (λ f fs m. more-quoted (eqb-false b quote t) m) (hyp Quoted k)

  closing_sound : (k : ℕ) → Every (λ fs. Means Closing k fs (b ∷ s)) (after (step Closing k b) b rest)
  unfolding step
  closing_sound k =
      step_if (λ fs. Means Closing k fs (b ∷ s)) b rest (eqb b quote) _ _
      (λ t. every_put _ (λ fs. Means Quoted k fs s) b (read_from Quoted k s) (λ f fs m. rw (eqb-true b quote t) (again m)) (hyp Quoted k))
      λ _. every_as _ (λ fs. Done k fs (b ∷ s)) (after (field_end k b) b rest) (λ fs d. at_closing d) (behind_sound k)

  returned_sound : (k : ℕ) → Every (λ fs. Means Returned k fs (b ∷ s)) (after (step Returned k b) b rest)
  unfolding step
  returned_sound k =
      step_if (λ fs. Means Returned k fs (b ∷ s)) b rest (eqb b lf) _ _
      (λ t. every_as _ (λ fs. Means Start 0 fs s) (read_from Start 0 s) (λ fs m. rw (eqb-true b lf t) (behind-cr m)) (hyp Start 0))
      λ _. tt

-- ---- the end
ends-start : (k : ℕ) → Every (λ fs. Means Start k fs []) (at_end Start k)
unfolding at_end field non_escaped
ends-start k =
    every_if (λ fs. Means Start k fs []) (eqb k 0) _ _ (λ t. no_more (eqb-true _ _ t)) λ _.
    every_if (λ fs. Means Start k fs []) (eqb k 4) _ _ (λ t. from_start [] [] (first just) (end (eqb-true _ _ t))) λ _. tt

ends-plain : (k : ℕ) → Every (λ fs. Means Plain k fs []) (at_end Plain k)
unfolding at_end non_escaped
ends-plain k = every_if (λ fs. Means Plain k fs []) (eqb k 4) _ _ (λ t. in_plain [] [] just (end (eqb-true _ _ t))) λ _. tt

ends_closing : (k : ℕ) → Every (λ fs. Means Closing k fs []) (at_end Closing k)
unfolding at_end
ends_closing k = every_if (λ fs. Means Closing k fs []) (eqb k 4) _ _ (λ t. closed (end (eqb-true _ _ t))) λ _. tt

sound : (s : List ℕ) (p : Mode) (k : ℕ) → Every (λ fs. Means p k fs s) (read_from p k s)
unfolding read_from at_end
sound [] Start k = ends-start k
sound [] Plain k = ends-plain k
sound [] Quoted k = tt
sound [] Closing k = ends_closing k
sound [] Returned k = tt
sound (b ∷ s) Start k = start_sound b s (sound s) k
sound (b ∷ s) Plain k = plain_sound b s (sound s) k
sound (b ∷ s) Quoted k = quoted_sound b s (sound s) k
sound (b ∷ s) Closing k = closing_sound b s (sound s) k
sound (b ∷ s) Returned k = returned_sound b s (sound s) k

-- ---- records
-- *(COMMA field)
abbrev further : Fields → Way
further [] = nothing
further (f ∷ fs) = byte comma then field f then further fs

-- five fields are a record
record Five (f : List ℕ) (fs : Fields) (a : List ℕ) : Type 0 where
  it : Record
  same : fields it ≡ f ∷ fs
  so : five it a

five_of : (f a : List ℕ) (fs : Fields) (b : List ℕ) → length fs ≡ 4 → field f a → further fs b → Five f fs (a ++ b)
unfolding five
five_of f a [] _ e x h = absurd (omega arith)
five_of f a (g ∷ []) _ e x h = absurd (omega arith)
five_of f a (g ∷ h ∷ []) _ e x k = absurd (omega arith)
five_of f a (g ∷ h ∷ i ∷ []) _ e x k = absurd (omega arith)
five_of f a (g ∷ h ∷ i ∷ j ∷ []) _ e x (in_turn just (in_turn y (in_turn just (in_turn z (in_turn just (in_turn u (in_turn just (in_turn {a = b} v just)))))))) = record {
  it = record { control = f; type = g; property = h; word = i; value = j };
  same = refl;
  so = rw (append-nil b) (in_turn x (in_turn just (in_turn y (in_turn just (in_turn z (in_turn just (in_turn u (in_turn just v))))))));
}
five_of f a (g ∷ h ∷ i ∷ j ∷ k ∷ fs) _ e x l = absurd (omega arith)

-- n more fields of the record, then other records
record Left (n : ℕ) (fs : Fields) (s : List ℕ) : Type 0 where
  own : Fields
  theirs : List Record
  many : length own ≡ n
  same : fs ≡ own ++ all_fields theirs
  these : List ℕ
  field_end : List ℕ
  whole : s ≡ these ++ field_end
  so : further own these
  others-so : (others theirs then ending) field_end

-- a record, and other records
record Whole (fs : Fields) (s : List ℕ) : Type 0 where
  it : Record
  rest : List Record
  same : fs ≡ all_fields (it ∷ rest)
  so : (five it then others rest then ending) s

module _ {f : List ℕ} {fs : Fields} (a : List ℕ) {t : List ℕ} (x : field f a) where
  one_more : {n : ℕ} → Left n fs t → Left (suc n) (f ∷ fs) (comma ∷ a ++ t)
  one_more l = record {
    own = f ∷ l.own;
    theirs = l.theirs;
    many = ap suc l.many;
    same = ap (λ y. f ∷ y) l.same;
    these = comma ∷ a ++ l.these;
    field_end = l.field_end;
    whole = ap (λ y. comma ∷ a ++ y) l.whole ∙ ap (λ y. comma ∷ y) (sym (append_assoc a l.these l.field_end));
    so = in_turn just (in_turn x l.so);
    others-so = l.others-so;
  }

  whole_record : Left 4 fs t → Whole (f ∷ fs) (a ++ t)
  unfolding all_fields
  whole_record l =
      let v = five_of f a l.own l.these l.many x l.so in
      record {
        it = v.it;
        rest = l.theirs;
        same = ap (λ y. f ∷ y) l.same ∙ ap (λ y. y ++ all_fields l.theirs) (sym v.same);
        so = rw (l.whole, ← (append_assoc a l.these l.field_end)) (in_turn v.so l.others-so);
      }

nothing-more : {s : List ℕ} → ending s → Left 0 [] s
unfolding others all_fields
nothing-more {s} e = record { own = []; theirs = []; many = refl; same = refl; these = []; field_end = s; whole = refl; so = just; others-so = in_turn just e }

behind-line : {P Q R : Way} {s : List ℕ} → (P then Q then R) s → ((bytes crlf then P then Q) then R) (cr ∷ lf ∷ s)
behind-line (in_turn {a = a} p (in_turn {a = b} {b = c} q r)) = rw (← (append_assoc a b c)) (in_turn (in_turn just (in_turn p q)) r)

line-more : {fs : Fields} {s : List ℕ} → Whole fs s → Left 0 fs (cr ∷ lf ∷ s)
unfolding others
line-more {fs} {s} w = record { own = []; theirs = w.it ∷ w.rest; many = refl; same = w.same; these = []; field_end = cr ∷ lf ∷ s; whole = refl; so = just; others-so = behind-line w.so }

left : {k : ℕ} {fs : Fields} {s : List ℕ} (n : ℕ) → Shut k fs s → k + n ≡ 4 → Left n fs s
left zero (end e) h = nothing-more (first just)
left (suc n) (end e) h = absurd (omega arith)
left zero (last e) h = nothing-more (second just)
left (suc n) (last e) h = absurd (omega arith)
left zero (next a t l x r) h = absurd (omega arith)
left (suc n) (next a t l x r) h = one_more a x (left n r (omega arith))
left zero (line a t e x r) h = line-more (whole_record a x (left 4 r refl))
left (suc n) (line a t e x r) h = absurd (omega arith)

-- ---- the whole text
from-top : {fs : Fields} {s : List ℕ} → Means Start 0 fs s → ¬ (s ≡ []) → Whole fs s
from-top (no_more e) n = absurd (n refl)
from-top (from_start a t x r) n = whole_record a x (left 4 r refl)

-- records that a text spells, and that have these fields
pub record Spelled (fs : Fields) (s : List ℕ) : Type 0 where
  pub records : List Record
  pub same : fs ≡ all_fields records
  pub so : s spells records

pub read-spelled : (s : List ℕ) (fs : Fields) → fields_of s ≡ some fs → Spelled fs s
unfolding fields_of sheet
read-spelled [] fs e = absurd (let z : ◌≡◌ {A = ℕ} 0 1 = cc in omega arith)
read-spelled (b ∷ s) fs e =
    let w = from-top (every_at (λ fs. Means Start 0 fs (b ∷ s)) (read_from Start 0 (b ∷ s)) fs (sound (b ∷ s) Start 0) e) (λ q. let z : ◌≡◌ {A = ℕ} 0 1 = cc in omega arith) in
    record { records = w.it ∷ w.rest; same = w.same; so = w.so }

pub no_spelling : (s : List ℕ) → ((t : List Record) → ¬ (s spells t)) → fields_of s ≡ none
no_spelling s n = go (fields_of s) refl
  where
    go : (o : Option Fields) → fields_of s ≡ o → fields_of s ≡ none
    go none e = e
    go (some fs) e = let w = read-spelled s fs e in absurd (n w.records w.so)
