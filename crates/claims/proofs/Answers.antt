-- The table of answer numbers holds, and gives one answer only.
use Prim.Native.Nat.{ℕ, ◌-◌, ◌/◌, ◌≤◌, ◌<◌}
use native.Mathlib.Omega.{arith}
use mathlib.Core.Path.{◌≡◌, refl, sym, ap, subst, ◌∙◌}
use mathlib.Core.Bool.{Bool, true, false, not, cond}
use mathlib.Core.List.{List, ◌++◌}
use mathlib.Core.Logic.{◌↔◌}
use mathlib.Core.Option.{Option, none, some}
use lib.Dec.{ltb, eqb}
use lib.ListN.{length, drop}
use borrow.Author.Tests.{lt-ltb, le-ltb, ltb-true, ltb-false, eq-eqb, ne_eqb, eqb-true, eqb-false}
use Rattle.rules.specs.Bytes.{u32}
use Rattle.rules.specs.Answer.{answer, refusal, longest}
use Rattle.rules.specs.Digits.{hex}
use Rattle.rules.specs.Texts.{hexes, guid_text_lem, text_exit, guid_exit}
use Rattle.rules.specs.Rows.{control_width, property_width, type_info_width, room}
use Rattle.rules.specs.TypeInfo.{type_info_of, type_info_answer}
use Rattle.rules.specs.CodeTable.{well_formed_lem}
use Rattle.rules.specs.Tree.{Entries}
use Rattle.rules.specs.Access2000.{Prop, stream_of}
use Rattle.rules.specs.Reading.{Reading, properties}
use Rattle.rules.specs.ReadLater.{read_later_lem}
use Rattle.rules.specs.Blob.{refused, read, is2000, read_by, reading_of, counted, fit, answer_of, outcome}
use Rattle.rules.specs.declared.Answer.{Answer}
use Rattle.claims.specs.Answers.{Judged, BlobAnswer, Entered, TypeInfoAnswer, GuidAnswer, TextAnswer}

-- ---- a Blob
module _ (t s cs ps : List ℕ) where
  abbrev c : ℕ
  c = room control_width cs

  abbrev p : ℕ
  p = room property_width ps

  abbrev said : Answer
  said = answer_of (outcome t s c p)

  judged-is : Judged t s → said ≡ answer_of (fit c p (reading_of t s))
  unfolding outcome
  judged-is j = rw (le-ltb longest (length s) j.not_long, j.formed)

  no-reading : is2000 t s ≡ true → stream_of s ≡ none → reading_of t s ≡ none
  unfolding reading_of
  no-reading o e = rw (o, e)

  -- what the table says is the answer
  pub blob_right : (a : Answer) → BlobAnswer t s cs ps a → a ≡ said
  unfolding outcome
  blob_right _ (BlobAnswer.five h) = sym (rw (lt-ltb longest (length s) (omega arith)))
  blob_right _ (BlobAnswer.eight h w) = sym (rw (le-ltb longest (length s) (omega arith), w))
  blob_right _ (BlobAnswer.four j o e) = sym (judged-is j ∙ ap (λ x. answer_of (fit c p x)) (no-reading o e))
  blob_right _ (BlobAnswer.six j {r} e h) = sym (judged-is j ∙ rw (e, lt-ltb c (length r.controls) h))
  blob_right _ (BlobAnswer.seven j {r} e h k) = sym (judged-is j ∙ rw (e, le-ltb c (length r.controls) h, lt-ltb p (length (properties r)) k))
  blob_right _ (BlobAnswer.zero j {r} e h k) = sym (judged-is j ∙ rw (e, le-ltb c (length r.controls) h, le-ltb p (length (properties r)) k))

  -- no reading comes of an Access 2000 stream only
  why-none : reading_of t s ≡ none → (is2000 t s ≡ true) × (stream_of s ≡ none)
  unfolding reading_of
  why-none e = go (is2000 t s) (stream_of s) refl refl e
    where
      go : (b : Bool) (o : Option (List Prop × Entries Prop)) → is2000 t s ≡ b → stream_of s ≡ o → cond b (read_by t s o) (some (read_later_lem s)) ≡ none
          → (is2000 t s ≡ true) × (stream_of s ≡ none)
      go true none x y e = (x, y)
      go true (some z) x y e = absurd (let q : ◌≡◌ {A = ℕ} 0 1 = cc in omega arith)
      go false o x y e = absurd (let q : ◌≡◌ {A = ℕ} 0 1 = cc in omega arith)

  fit-told : Judged t s → (o : Option Reading) → reading_of t s ≡ o → BlobAnswer t s cs ps (answer_of (fit c p o))
  fit-told j none e = let w = why-none e in BlobAnswer.four j w.0 w.1
  fit-told j (some r) e = go (ltb c (length r.controls)) (ltb p (length (properties r))) refl refl
    where
      go : (b d : Bool) → ltb c (length r.controls) ≡ b → ltb p (length (properties r)) ≡ d
          → BlobAnswer t s cs ps (answer_of (cond b (refused (counted 6 r)) (cond d (refused (counted 7 r)) (read r))))
      go true d h k = BlobAnswer.six j e (ltb-true _ _ h)
      go false true h k = BlobAnswer.seven j e (ltb-false _ _ h) (ltb-true _ _ k)
      go false false h k = BlobAnswer.zero j e (ltb-false _ _ h) (ltb-false _ _ k)

  -- the answer is in the table
  pub blob-told : BlobAnswer t s cs ps said
  unfolding outcome
  blob-told = go (ltb longest (length s)) (well_formed_lem t) refl refl
    where
      go : (b d : Bool) → ltb longest (length s) ≡ b → well_formed_lem t ≡ d
          → BlobAnswer t s cs ps (answer_of (cond b (refused (refusal 5)) (cond (not d) (refused (refusal 8)) (fit c p (reading_of t s)))))
      go true d h k = BlobAnswer.five (ltb-true _ _ h)
      go false true h k = fit-told (record { not_long = ltb-false _ _ h; formed = k }) (reading_of t s) refl
      go false false h k = BlobAnswer.eight (ltb-false _ _ h) k

-- ---- TypeInfo
module _ (s rows : List ℕ) where
  abbrev n : ℕ
  n = room type_info_width rows

  pub info_right : (a : Answer) → TypeInfoAnswer s rows a → a ≡ type_info_answer s n
  unfolding type_info_answer
  info_right _ (TypeInfoAnswer.five h) = sym (rw (lt-ltb longest (length s) (omega arith)))
  info_right _ (TypeInfoAnswer.one h) = sym (rw (le-ltb longest (length s) (omega arith), lt-ltb (length s) 32 h))
  info_right _ (TypeInfoAnswer.two h k m) = sym (rw (le-ltb longest (length s) (omega arith), le-ltb (length s) 32 k, ne_eqb (u32 s 0) 0xACCDEAF7 m))
  info_right _ (TypeInfoAnswer.three h k m l) =
      sym (rw (le-ltb longest (length s) (omega arith), le-ltb (length s) 32 k, eq-eqb (u32 s 0) 0xACCDEAF7 m, lt-ltb ((length s - 32) / 8) (u32 s 12) l))
  info_right _ (TypeInfoAnswer.six e l) =
      sym (rw (le-ltb longest (length s) e.not_long, le-ltb (length s) 32 e.whole, eq-eqb (u32 s 0) 0xACCDEAF7 e.magic, le-ltb ((length s - 32) / 8) (u32 s 12) e.count, lt-ltb n (length (type_info_of s)) l))
  info_right _ (TypeInfoAnswer.zero e l) =
      sym (rw (le-ltb longest (length s) e.not_long, le-ltb (length s) 32 e.whole, eq-eqb (u32 s 0) 0xACCDEAF7 e.magic, le-ltb ((length s - 32) / 8) (u32 s 12) e.count, le-ltb n (length (type_info_of s)) l))

  pub info_told : TypeInfoAnswer s rows (type_info_answer s n)
  unfolding type_info_answer
  info_told =
      go (ltb longest (length s)) (ltb (length s) 32) (eqb (u32 s 0) 0xACCDEAF7) (ltb ((length s - 32) / 8) (u32 s 12)) (ltb n (length (type_info_of s))) refl refl refl refl refl
    where
      entered : ltb longest (length s) ≡ false → ltb (length s) 32 ≡ false → eqb (u32 s 0) 0xACCDEAF7 ≡ true → ltb ((length s - 32) / 8) (u32 s 12) ≡ false → Entered s
      entered eb ed em el = record { not_long = ltb-false _ _ eb; whole = ltb-false _ _ ed; magic = eqb-true _ _ em; count = ltb-false _ _ el }

      go : (b d m l k : Bool) → ltb longest (length s) ≡ b → ltb (length s) 32 ≡ d → eqb (u32 s 0) 0xACCDEAF7 ≡ m → ltb ((length s - 32) / 8) (u32 s 12) ≡ l
          → ltb n (length (type_info_of s)) ≡ k
          → TypeInfoAnswer s rows (cond b (refusal 5) (cond d (refusal 1) (cond (not m) (refusal 2) (cond l (refusal 3)
          (cond k (answer 6 (length (type_info_of s)) 0 0) (answer 0 (length (type_info_of s)) 0 0))))))
      go true d m l k eb ed em el ek = TypeInfoAnswer.five (ltb-true _ _ eb)
      go false true m l k eb ed em el ek = TypeInfoAnswer.one (ltb-true _ _ ed)
      go false false false l k eb ed em el ek = TypeInfoAnswer.two (ltb-false _ _ eb) (ltb-false _ _ ed) (eqb-false _ _ em)
      go false false true true k eb ed em el ek = TypeInfoAnswer.three (ltb-false _ _ eb) (ltb-false _ _ ed) (eqb-true _ _ em) (ltb-true _ _ el)
      go false false true false true eb ed em el ek = TypeInfoAnswer.six (entered eb ed em el) (ltb-true _ _ ek)
      go false false true false false eb ed em el ek = TypeInfoAnswer.zero (entered eb ed em el) (ltb-false _ _ ek)

-- ---- texts
-- a text without room and with room
pub text-short : (text out : List ℕ) → length out < length text → text_exit text out ≡ record { answer = refusal 9; out = out }
unfolding text_exit
text-short text out h = rw (lt-ltb (length out) (length text) h)

pub text-wrote : (text out : List ℕ) → length text ≤ length out → text_exit text out ≡ record { answer = answer 0 (length text) 0 0; out = text ++ drop (length text) out }
unfolding text_exit
text-wrote text out h = rw (le-ltb (length out) (length text) h)

guid-long : (g : List ℕ) → length (guid_text_lem g) ≡ 38
unfolding guid_text_lem hexes hex
guid-long g = refl

module _ (g out : List ℕ) where
  is-guid : length g ≡ 16 → guid_exit g out ≡ text_exit (guid_text_lem g) out
  unfolding guid_exit
  is-guid h = rw (eq-eqb (length g) 16 h)

  guid-short : length g ≡ 16 → length out < 38 → (guid_exit g out).answer ≡ refusal 9
  guid-short h k = ap (λ x. x.answer) (is-guid h ∙ text-short (guid_text_lem g) out (omega (arith, guid-long g)))

  guid-wrote : length g ≡ 16 → 38 ≤ length out → (guid_exit g out).answer ≡ answer 0 38 0 0
  guid-wrote h k = ap (λ x. x.answer) (is-guid h ∙ text-wrote (guid_text_lem g) out (omega (arith, guid-long g))) ∙ ap (λ n. answer 0 n 0 0) (guid-long g)

  no-guid : ¬ (length g ≡ 16) → (guid_exit g out).answer ≡ refusal 10
  unfolding guid_exit
  no-guid h = rw (ne_eqb (length g) 16 h)

  pub guid_right : (a : Answer) → GuidAnswer g out a → a ≡ (guid_exit g out).answer
  guid_right _ (GuidAnswer.ten h) = sym (no-guid h)
  guid_right _ (GuidAnswer.nine h k) = sym (guid-short h (omega arith))
  guid_right _ (GuidAnswer.zero h k) = sym (guid-wrote h (omega arith))

  pub guid-told : GuidAnswer g out (guid_exit g out).answer
  guid-told = go (eqb (length g) 16) (ltb (length out) 38) refl refl
    where
      go : (b d : Bool) → eqb (length g) 16 ≡ b → ltb (length out) 38 ≡ d → GuidAnswer g out (guid_exit g out).answer
      go false d h k = rw (no-guid (eqb-false _ _ h)) (GuidAnswer.ten (eqb-false _ _ h))
      go true true h k = rw (guid-short (eqb-true _ _ h) (ltb-true _ _ k)) (GuidAnswer.nine (eqb-true _ _ h) (ltb-true _ _ k))
      go true false h k = rw (guid-wrote (eqb-true _ _ h) (ltb-false _ _ k)) (GuidAnswer.zero (eqb-true _ _ h) (ltb-false _ _ k))

module _ (text out : List ℕ) where
  pub text_right : (a : Answer) → TextAnswer text out a → a ≡ (text_exit text out).answer
  text_right _ (TextAnswer.nine h) = sym (ap (λ x. x.answer) (text-short text out (omega arith)))
  text_right _ (TextAnswer.zero h) = sym (ap (λ x. x.answer) (text-wrote text out (omega arith)))

  pub text-told : TextAnswer text out (text_exit text out).answer
  text-told = go (ltb (length out) (length text)) refl
    where
      go : (b : Bool) → ltb (length out) (length text) ≡ b → TextAnswer text out (text_exit text out).answer
      go true h = rw (text-short text out (ltb-true _ _ h)) (TextAnswer.nine (ltb-true _ _ h))
      go false h = rw (text-wrote text out (ltb-false _ _ h)) (TextAnswer.zero (ltb-false _ _ h))

-- ---- exactly: in the table, and no other
pub exactly : {Table : Answer → Type 0} {a : Answer} → ((b : Answer) → Table b → b ≡ a) → Table a → (b : Answer) → Table b ↔ (b ≡ a)
exactly {Table} right told b = (right b, λ e. subst Table (sym e) told)
