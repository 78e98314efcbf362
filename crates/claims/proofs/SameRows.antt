-- Streams with the same ten leading bytes that spell the same are read as the same rows, but for starts: by what is promised of the rows of each.
use Prim.Native.Nat.{ℕ, zero, suc, ◌+◌, ◌-◌, ◌≤◌, ◌<◌}
use native.Mathlib.Omega.{arith}
use mathlib.Core.Path.{◌≡◌, refl, sym, ap, ap₂, subst, ◌∙◌}
use mathlib.Core.Bool.{Bool, true, false, cond}
use mathlib.Core.List.{List, [], ◌∷◌, ◌++◌, map}
use mathlib.Core.Logic.{inl, inr}
use lib.Bits.{bit_or}
use lib.Dec.{ltb, eqb}
use lib.ListN.{length, get_or, drop, length-drop}
use lib.Seq.{length-take-le}
use borrow.Author.Tests.{lt-ltb, le-ltb, ltb-true, ltb-false, eqb-true, eqb-false}
use Rattle.rules.specs.Lists.{find, has}
use Rattle.rules.specs.Bytes.{Bytes, byte, part}
use Rattle.rules.specs.Answer.{answer}
use Rattle.rules.specs.Value.{stored_value_lem, value_as_lem}
use Rattle.rules.specs.Rows.{control_width, property_width, room, row_at}
use Rattle.rules.specs.Tree.{no_parent}
use Rattle.rules.specs.CodeTable.{header, Holds}
use Rattle.rules.specs.Reading.{Control, Reading, properties, name_words, control_row, control_rows_from, control_rows, property_row}
use Rattle.rules.specs.Read2000.{Spot, bytes_of, property}
use Rattle.rules.specs.Blob.{Exit, spots}
use Rattle.rules.specs.declared.Answer.{Answer}
use Rattle.rules.specs.declared.Value.{Value}
use Rattle.rules.specs.declared.Name.{Name}
use Rattle.rules.specs.declared.Name.TheVariants.{Text, Numbered, Loose}
use Rattle.rules.proofs.RowsLaws.{row_of_words}
use Rattle.rules.proofs.ReadingLaws.{controls_wide, controls-counted}
use Rattle.claims.specs.Answers.{BlobAnswer}
use Rattle.claims.specs.Grammar.{Property, Stream, ◌spells◌}
use Rattle.claims.specs.Shown.{Placed}
use Rattle.claims.specs.Counts.{Counted}
use Rattle.claims.specs.Stored.{reported, stored_of, spot_says, type_says, is_name_lem, name_by_lem, control_says, name_shows, control_shows}
use Rattle.claims.specs.Demand2.{Given}
use Rattle.claims.specs.Demand3.{Lent, SameRoom, exit_of, no-spot}
use Rattle.claims.specs.RowChecks.{control_word, name_mark, name_start, name_length, level, parent_row, shown_id, Named, Known, RowOf, Checks, SeenItems}
use Rattle.claims.specs.Nesting.{last_before, parent_by}
use Rattle.claims.specs.Rewriting.{SameProperty, SameControl, SameRows}
use Rattle.claims.proofs.Demand1.{demand1}
use Rattle.claims.proofs.Demand2.{demand2, complete}
use Rattle.claims.proofs.RowChecks.{row-checks}
use Rattle.claims.proofs.Nesting.{nesting}

-- a part that stands inside is as long as it says
part-long : (s : List ℕ) (start size : ℕ) → start + size ≤ length s → length (part s start size) ≡ size
part-long s start size h = length-take-le size (drop start s) (omega (arith, length-drop start s))

-- what two maps give at one place
map_at : {A B C : Type 0} (f : A → C) (g : B → C) (xs : List A) (ys : List B) (i : ℕ) (a : A) (b : B) → map f xs ≡ map g ys → i < length xs → f (get_or xs i a) ≡ g (get_or ys i b)
map_at f g [] ys i a b e l = absurd (omega arith)
map_at f g (x ∷ xs) [] i a b e l = absurd (let z : ◌≡◌ {A = ℕ} 0 1 = cc in omega arith)
map_at f g (x ∷ xs) (y ∷ ys) zero a b e l = let q : f x ≡ g y = cc in q
map_at f g (x ∷ xs) (y ∷ ys) (suc i) a b e l = let q : map f xs ≡ map g ys = cc in map_at f g xs ys i a b q (omega arith)

-- ---- the answer, by the counts and the room
abbrev by_room : ℕ → ℕ → ℕ → ℕ → ℕ → Answer
by_room c p first second third = answer (cond (ltb c first) 6 (cond (ltb p second) 7 0)) first second third

answer-by : (t s cs ps : List ℕ) → Given t s → (u : Stream) → drop 10 s spells u → (a : Answer) → BlobAnswer t s cs ps a
    → a ≡ by_room (room control_width cs) (room property_width ps) a.first a.second a.third
answer-by t s cs ps g u h _ (BlobAnswer.five l) = absurd (omega (arith, g.not_long))
answer-by t s cs ps g u h _ (BlobAnswer.eight l e) = let w = g.formed in absurd (let z : ◌≡◌ {A = ℕ} 0 1 = cc in omega arith)
answer-by t s cs ps g u h _ (BlobAnswer.four j o e) = let w = complete s u h in absurd (let z : ◌≡◌ {A = ℕ} 0 1 = cc in omega arith)
answer-by t s cs ps g u h _ (BlobAnswer.six j {r} w l) = rw (lt-ltb (room control_width cs) (length r.controls) l)
answer-by t s cs ps g u h _ (BlobAnswer.seven j {r} w l k) = rw (le-ltb (room control_width cs) (length r.controls) l, lt-ltb (room property_width ps) (length (properties r)) k)
answer-by t s cs ps g u h _ (BlobAnswer.zero j {r} w l k) = rw (le-ltb (room control_width cs) (length r.controls) l, le-ltb (room property_width ps) (length (properties r)) k)

-- ---- a property row, by the stored property that it is of
abbrev known_same : (t : List ℕ) (x y : Spot) → x.scope.kind ≡ y.scope.kind → x.scope.code ≡ y.scope.code → x.prop.id ≡ y.prop.id → Known t x → Known t y
known_same t x y kind code id k = record {
  tie = k.tie;
  held = subst (λ a. Holds t a y.scope.code k.tie) kind (subst (λ b. Holds t x.scope.kind b k.tie) code k.held);
  its-code = k.its-code ∙ id;
}

-- rows of one id, value and length
words_same : (i : ℕ) (v : Value) (a b n m w : ℕ) → n ≡ m → w < property_width → ¬ (w ≡ 4)
    → get_or (i ∷ v.mark ∷ v.low ∷ v.high ∷ a ∷ n ∷ []) w 0 ≡ get_or (i ∷ v.mark ∷ v.low ∷ v.high ∷ b ∷ m ∷ []) w 0
words_same i v a b n m zero e l k = refl
words_same i v a b n m (suc zero) e l k = refl
words_same i v a b n m (suc (suc zero)) e l k = refl
words_same i v a b n m (suc (suc (suc zero))) e l k = refl
words_same i v a b n m (suc (suc (suc (suc zero)))) e l k = absurd (k refl)
words_same i v a b n m (suc (suc (suc (suc (suc zero))))) e l k = e
words_same i v a b n m (suc (suc (suc (suc (suc (suc w)))))) e l k = absurd (omega arith)

module _ (t s r : List ℕ) (seen seen' : Exit) (j : ℕ) (x y : Spot) (X : RowOf t s seen j x) (Y : RowOf t r seen' j y) (same : spot_says s x ≡ spot_says r y)
    (inside : x.prop.start + x.prop.size ≤ length s) (inside' : y.prop.start + y.prop.size ≤ length r) where
  id : x.prop.id ≡ y.prop.id
  id = ap (λ w. w.1.id) same

  bytes : bytes_of s x.prop ≡ bytes_of r y.prop
  bytes = ap (λ w. w.1.value) same

  size : x.prop.size ≡ y.prop.size
  size = sym (part-long s x.prop.start x.prop.size inside) ∙ ap length bytes ∙ part-long r y.prop.start y.prop.size inside'

  abbrev known : Known t x → Known t y
  known = known_same t x y (ap (λ w. w.0.kind) same) (ap (λ w. w.0.code) same) id

  unknown : Known t y → Known t x
  unknown = known_same t y x (sym (ap (λ w. w.0.kind) same)) (sym (ap (λ w. w.0.code) same)) (sym id)

  by_rows : (i : ℕ) (v v' : Value) → v ≡ v' → row_at property_width j seen.properties ≡ property_row (property i v x.prop) → row_at property_width j seen'.properties ≡ property_row (property i v' y.prop)
      → SameProperty s r seen seen' j
  by_rows i v v' e p q = record {
    but_start = λ w l k.
        ap (λ z. get_or z w 0) p
        ∙ words_same i v x.prop.start y.prop.start x.prop.size y.prop.size w size l (λ e. k (omega (arith, e)))
        ∙ ap (λ z. get_or (property_row (property i z y.prop)) w 0) e
        ∙ sym (ap (λ z. get_or z w 0) q);
    named = ap₂ (part s) X.its-start X.its-length ∙ bytes ∙ sym (ap₂ (part r) Y.its-start Y.its-length);
  }

  property-same : SameProperty s r seen seen' j
  property-same = go (ltb (shown_id seen j) 0x8000) refl
    where
      go : (b : Bool) → ltb (shown_id seen j) 0x8000 ≡ b → SameProperty s r seen seen' j
      go true e = let k = X.id-known.0 (ltb-true (shown_id seen j) 0x8000 e) in by_rows k.tie.target _ _ (ap₂ (value_as_lem k.tie.kind) id bytes) (X.tied k) (Y.tied (known k))
      go false e =
          let n : ¬ Known t x = λ k. let l = X.id-known.1 k in omega (arith, ltb-false (shown_id seen j) 0x8000 e) in
          by_rows (bit_or 0x8000 x.prop.id) _ _ (ap₂ stored_value_lem id bytes) (X.untied n)
          (Y.untied (λ k. n (unknown k)) ∙ ap (λ i. property_row (property (bit_or 0x8000 i) (stored_value_lem y.prop.id (bytes_of r y.prop)) y.prop)) (sym id))

-- ---- a control row, by what its control shows
module _ (s r : List ℕ) where
  record AlikeRow (row row' : List ℕ) : Type 0 where
    its-type : get_or row 0 0 ≡ get_or row' 0 0
    its-mark : get_or row 1 0 ≡ get_or row' 1 0
    its-first : get_or row 4 0 ≡ get_or row' 4 0
    its-count : get_or row 5 0 ≡ get_or row' 5 0
    its-level : get_or row 6 0 ≡ get_or row' 6 0
    numbered : get_or row 1 0 ≡ 1 → (get_or row 2 0 ≡ get_or row' 2 0) × (get_or row 3 0 ≡ get_or row' 3 0)
    named : ¬ (get_or row 1 0 ≡ 1) → part s (get_or row 2 0) (get_or row 3 0) ≡ part r (get_or row' 2 0) (get_or row' 3 0)

  row-alike : (n first : ℕ) (c c' : Control) → control_shows s c ≡ control_shows r c' → AlikeRow (control_row n first c) (control_row n first c')
  unfolding control_row
  row-alike n first c c' e = go c.name c'.name (ap (λ x. x.1) e)
    where
      words : Control → Name → List ℕ
      words c m = c.type ∷ name_words n m ++ (first ∷ length c.properties ∷ c.level ∷ c.parent ∷ [])

      go : (m m' : Name) → name_shows s m ≡ name_shows r m' → AlikeRow (words c m) (words c' m')
      go (Text a b) (Text a' b') q = record { its-type = ap (λ x. x.0) e; its-mark = refl; its-first = refl; its-count = ap (λ x. x.2) e; its-level = ap (λ x. x.3) e; numbered = λ z. absurd (omega arith); named = λ _. ap (λ x. x.1) q }
      go (Loose a b) (Loose a' b') q = record { its-type = ap (λ x. x.0) e; its-mark = refl; its-first = refl; its-count = ap (λ x. x.2) e; its-level = ap (λ x. x.3) e; numbered = λ z. absurd (omega arith); named = λ _. ap (λ x. x.1) q }
      go Numbered Numbered q = record { its-type = ap (λ x. x.0) e; its-mark = refl; its-first = refl; its-count = ap (λ x. x.2) e; its-level = ap (λ x. x.3) e; numbered = λ _. (refl, refl); named = λ z. absurd (z refl) }
      go (Text a b) Numbered q = let z : ◌≡◌ {A = ℕ} 0 1 = ap (λ x. x.0) q in absurd (omega arith)
      go (Text a b) (Loose a' b') q = let z : ◌≡◌ {A = ℕ} 0 2 = ap (λ x. x.0) q in absurd (omega arith)
      go Numbered (Text a' b') q = let z : ◌≡◌ {A = ℕ} 1 0 = ap (λ x. x.0) q in absurd (omega arith)
      go Numbered (Loose a' b') q = let z : ◌≡◌ {A = ℕ} 1 2 = ap (λ x. x.0) q in absurd (omega arith)
      go (Loose a b) (Text a' b') q = let z : ◌≡◌ {A = ℕ} 2 0 = ap (λ x. x.0) q in absurd (omega arith)
      go (Loose a b) Numbered q = let z : ◌≡◌ {A = ℕ} 2 1 = ap (λ x. x.0) q in absurd (omega arith)

  rows_alike : (n first : ℕ) (xs ys : List Control) → map (control_shows s) xs ≡ map (control_shows r) ys → (i : ℕ) → i < length xs
      → AlikeRow (get_or (control_rows_from n first xs) i []) (get_or (control_rows_from n first ys) i [])
  unfolding control_rows_from
  rows_alike n first [] ys e i l = absurd (omega arith)
  rows_alike n first (x ∷ xs) [] e i l = absurd (let z : ◌≡◌ {A = ℕ} 0 1 = cc in omega arith)
  rows_alike n first (x ∷ xs) (y ∷ ys) e zero l = let q : control_shows s x ≡ control_shows r y = cc in row-alike n first x y q
  rows_alike n first (x ∷ xs) (y ∷ ys) e (suc i) l =
      let q : control_shows s x ≡ control_shows r y = cc in
      let k : map (control_shows s) xs ≡ map (control_shows r) ys = cc in
      let many : length x.properties ≡ length y.properties = ap (λ x. x.2) q in
      subst (λ m. AlikeRow (get_or (control_rows_from (n + 1) (first + length x.properties) xs) i []) (get_or (control_rows_from (n + 1) (first + m) ys) i []))
      many (rows_alike (n + 1) (first + length x.properties) xs ys k i (omega arith))

-- byte 8 alone tells what an item shows
says_same : (t s r : List ℕ) → byte s 8 ≡ byte r 8 → (n : Placed Property) → control_says t s n ≡ control_says t r n
says_same t s r side n =
    let type : type_says t s n.type ≡ type_says t r n.type = ap (λ b. cond (has n.type (header t)) (bit_or (cond (eqb b 0x97) 0x1900 0x1800) n.type) n.type) side in
    λ i. (type i, name_by_lem (find (is_name_lem n.type) n.properties), length n.properties, n.level)

map_same : {A B : Type 0} (f g : A → B) → ((x : A) → f x ≡ g x) → (xs : List A) → map f xs ≡ map g xs
map_same f g h [] = refl
map_same f g h (x ∷ xs) = ap₂ ◌∷◌ (h x) (map_same f g h xs)

-- the row of a control that is seen
seen-row : (cs ps : List ℕ) (x : Reading) (seen : Exit) → Counted cs ps x seen → (i : ℕ) → i < seen.answer.first
    → row_at control_width i seen.controls ≡ get_or (control_rows_from 0 (length x.own) x.controls) i []
unfolding control_rows
seen-row cs ps x seen k i l =
    ap (row_at control_width i) k.control-words
    ∙ row_of_words control_width (control_rows_from 0 (length x.own) x.controls) _ (controls_wide 0 (length x.own) x.controls) i (omega (arith, k.first))

-- a parent is told by the levels up to its row
last-same : (f g : ℕ → ℕ) (l n : ℕ) → ((k : ℕ) → k < n → f k ≡ g k) → last_before f l n ≡ last_before g l n
unfolding last_before
last-same f g l zero h = refl
last-same f g l (suc n) h = rw (h n (omega arith), last-same f g l n (λ k m. h k (omega arith)))

parent-same : (f g : ℕ → ℕ) (i : ℕ) → ((k : ℕ) → k < i + 1 → f k ≡ g k) → parent_by f i ≡ parent_by g i
parent-same f g i h =
    ap₂ (λ a b. cond (eqb a 0) no_parent b) (h i (omega arith)) (last-same f g (f i - 1) i (λ k l. h k (omega arith)) ∙ ap (λ a. last_before g (a - 1) i) (h i (omega arith)))

is-named : (m : ℕ) → m ≤ 2 → ¬ (m ≡ 1) → Named m
is-named zero l k = inl refl
is-named (suc zero) l k = absurd (k refl)
is-named (suc (suc zero)) l k = inr refl
is-named (suc (suc (suc m))) l k = absurd (omega arith)

-- ---- two such streams under one table, in the same room
module _ (t s r : List ℕ) (u : Stream) (small : Bytes s) (small' : Bytes r) (g : Given t s) (g' : Given t r) (h : drop 10 s spells u) (h' : drop 10 r spells u)
    (side : byte s 8 ≡ byte r 8) (lent lent' : Lent) (rooms : SameRoom lent lent') where
  abbrev seen : Exit
  seen = exit_of t s lent

  abbrev seen' : Exit
  seen' = exit_of t r lent'

  same_answer : seen.answer ≡ seen'.answer
  same_answer =
      let told = ((demand1.blobs t s lent.controls lent.properties).exactly seen.answer).1 refl in
      let told' = ((demand1.blobs t r lent'.controls lent'.properties).exactly seen'.answer).1 refl in
      let k = (demand2.judges t s lent.controls lent.properties small g).counts u h in
      let k' = (demand2.judges t r lent'.controls lent'.properties small' g').counts u h' in
      answer-by t s _ _ g u h seen.answer told
      ∙ (λ i. by_room (rooms.of_controls i) (rooms.of_properties i) ((k.0 ∙ sym k'.0) i) ((k.1 ∙ sym k'.1) i) ((k.2 ∙ sym k'.2) i))
      ∙ sym (answer-by t r _ _ g' u h' seen'.answer told')

  module _ (e : seen.answer.number ≡ 0) where
    e' : seen'.answer.number ≡ 0
    e' = ap (λ a. a.number) (sym same_answer) ∙ e

    abbrev C : Checks t s seen
    C = row-checks.checks t s lent.controls lent.properties e

    abbrev C' : Checks t r seen'
    C' = row-checks.checks t r lent'.controls lent'.properties e'

    first : seen.answer.first ≡ seen'.answer.first
    first = ap (λ a. a.first) same_answer

    second : seen.answer.second ≡ seen'.answer.second
    second = ap (λ a. a.second) same_answer

    stored_same : map (spot_says s) (spots s) ≡ map (spot_says r) (spots r)
    stored_same =
        let says : stored_of s u ≡ stored_of r u = rw side in
        row-checks.stored s small u h ∙ says ∙ sym (row-checks.stored r small' u h')

    properties-same : (j : ℕ) → j < seen.answer.second → SameProperty s r seen seen' j
    properties-same j l =
        let X = C.row_of g.old-layout j l in
        let Y = C'.row_of g'.old-layout j (omega (arith, second)) in
        property-same t s r seen seen' j (get_or (spots s) j no-spot) (get_or (spots r) j no-spot) X Y
        (map_at (spot_says s) (spot_says r) (spots s) (spots r) j no-spot no-spot stored_same (omega (arith, C.a_row-each g.old-layout)))
        (omega (arith, C.value-inside j l, X.its-start, X.its-length)) (omega (arith, C'.value-inside j (omega (arith, second)), Y.its-start, Y.its-length))

    abbrev I : SeenItems t s lent.controls lent.properties u seen
    I = row-checks.items t s lent.controls lent.properties small g u h e

    abbrev I' : SeenItems t r lent'.controls lent'.properties u seen'
    I' = row-checks.items t r lent'.controls lent'.properties small' g' u h' e'

    shows_same : map (control_shows s) I.reading.controls ≡ map (control_shows r) I'.reading.controls
    shows_same =
        I.shows ∙ map_same (control_says t s) (control_says t r) (says_same t s r side) (reported u) ∙ sym I'.shows

    own_same : length I.reading.own ≡ length I'.reading.own
    own_same = sym I.rows.third ∙ ap (λ a. a.third) same_answer ∙ I'.rows.third

    alike : (i : ℕ) → i < seen.answer.first → AlikeRow s r (row_at control_width i seen.controls) (row_at control_width i seen'.controls)
    alike i l =
        let x = I.reading in
        let y = I'.reading in
        let a = rows_alike s r 0 (length x.own) x.controls y.controls shows_same i (omega (arith, I.rows.first, controls-counted x)) in
        let b = subst (λ m. AlikeRow s r (get_or (control_rows_from 0 (length x.own) x.controls) i []) (get_or (control_rows_from 0 m y.controls) i [])) own_same a in
        rw (seen-row _ _ x seen I.rows i l, seen-row _ _ y seen' I'.rows i (omega (arith, first))) b

    length-same : (i : ℕ) → i < seen.answer.first → name_length seen i ≡ name_length seen' i
    length-same i l = go (eqb (name_mark seen i) 1) refl
      where
        go : (b : Bool) → eqb (name_mark seen i) 1 ≡ b → name_length seen i ≡ name_length seen' i
        go true k = ((alike i l).numbered (eqb-true (name_mark seen i) 1 k)).1
        go false k =
            let a = alike i l in
            let l' : i < seen'.answer.first = omega (arith, first) in
            let n = is-named (name_mark seen i) (C.name-mark i l) (eqb-false (name_mark seen i) 1 k) in
            let n' : Named (name_mark seen' i) = subst Named a.its-mark n in
            sym (part-long s (name_start seen i) (name_length seen i) (C.name-inside i l n)) ∙ ap length (a.named (eqb-false (name_mark seen i) 1 k)) ∙ part-long r (name_start seen' i) (name_length seen' i) (C'.name-inside i l' n')

    parents_same : (i : ℕ) → i < seen.answer.first → parent_row seen i ≡ parent_row seen' i
    parents_same i l =
        (nesting.nested t s lent.controls lent.properties e).by-levels i l
        ∙ parent-same (level seen) (level seen') i (λ k m. (alike k (omega arith)).its-level)
        ∙ sym ((nesting.nested t r lent'.controls lent'.properties e').by-levels i (omega (arith, first)))

    controls-same : (i : ℕ) → i < seen.answer.first → SameControl s r seen seen' i
    controls-same i l = record { but_start = words; numbered = λ k. ((alike i l).numbered k).0; named = (alike i l).named }
      where
        words : (w : ℕ) → w < control_width → ¬ (w ≡ 2) → control_word w seen i ≡ control_word w seen' i
        words zero m k = (alike i l).its-type
        words (suc zero) m k = (alike i l).its-mark
        words (suc (suc zero)) m k = absurd (k refl)
        words (suc (suc (suc zero))) m k = length-same i l
        words (suc (suc (suc (suc zero)))) m k = (alike i l).its-first
        words (suc (suc (suc (suc (suc zero))))) m k = (alike i l).its-count
        words (suc (suc (suc (suc (suc (suc zero)))))) m k = (alike i l).its-level
        words (suc (suc (suc (suc (suc (suc (suc zero))))))) m k = parents_same i l
        words (suc (suc (suc (suc (suc (suc (suc (suc w)))))))) m k = absurd (omega arith)

  pub same_rows : SameRows s r seen seen'
  same_rows = record { answer = same_answer; controls = controls-same; properties = properties-same }
