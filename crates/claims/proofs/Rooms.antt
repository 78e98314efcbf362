-- Wish 14 holds.
use Prim.Native.Nat.{ℕ, zero, ◌+◌, ◌*◌, ◌-◌, ◌/◌, ◌≤◌}
use native.Mathlib.Omega.{arith}
use mathlib.Core.Path.{◌≡◌, refl, subst}
use mathlib.Core.Bool.{Bool, true, false, cond}
use mathlib.Core.List.{List}
use mathlib.Core.Option.{Option, none, some}
use lib.Dec.{ltb}
use lib.ListN.{length}
use borrow.Author.Tests.{ltb-true, ltb-false}
use Rattle.rules.specs.Bytes.{u32}
use Rattle.rules.specs.TypeInfo.{type_info_of, type_info_answer, type_info_exit}
use Rattle.rules.specs.Rows.{control_width, property_width, type_info_width, room}
use Rattle.rules.specs.Tree.{Entries}
use Rattle.rules.specs.Access2000.{Prop, stream_of}
use Rattle.rules.specs.Later as later
use Rattle.rules.specs.Later.{tree_of}
use Rattle.rules.specs.Reading.{Reading, properties}
use Rattle.rules.specs.Read2000.{read2000}
use Rattle.rules.specs.ReadLater.{read_later_lem}
use Rattle.rules.specs.Blob.{is2000, read_by, reading_of, answer_of, outcome, exit}
use Rattle.rules.specs.Room.{room2000, room_later_lem, room_for, type_info_room_lem}
use Rattle.rules.specs.declared.Answer.{Answer}
use Rattle.rules.proofs.ListLaws.{Every, none_some}
use Rattle.rules.proofs.TypeInfoLaws.{reported-few}
use Rattle.claims.specs.Answers.{BlobAnswer, TypeInfoAnswer}
use Rattle.claims.specs.Rooms.{Never, Bounds, Lent, Enough, EnoughInfos, Rooms}
use Rattle.claims.proofs.Answers.{blob-told, info_told}
use Rattle.claims.proofs.Takes2000.{Fits2000, fits_2000}
use Rattle.claims.proofs.TakesLater.{tree-fits, scan-fits, short-fits}
use Rattle.claims.proofs.Tight.{tight-met, later-tight}

module _ (t s : List ℕ) where
  -- ---- whatever is so of a layout's counts is so of the reading's
  of_old : (F : ℕ → ℕ → Type 0) → Every (λ x. F (length (read2000 t s x).controls) (length (properties (read2000 t s x)))) (stream_of s) → is2000 t s ≡ true
      → (r : Reading) → reading_of t s ≡ some r → F (length r.controls) (length (properties r))
  unfolding reading_of
  of_old F h o r e = go (stream_of s) h (rw o at e)
    where
      go : (x : Option (List Prop × Entries Prop)) → Every (λ x. F (length (read2000 t s x).controls) (length (properties (read2000 t s x)))) x → read_by t s x ≡ some r
          → F (length r.controls) (length (properties r))
      go none h e = absurd (none_some e)
      go (some x) h e = let g : read2000 t s x ≡ r = cc in subst (λ y. F (length y.controls) (length (properties y))) g h

  of_later : (F : ℕ → ℕ → Type 0) → F (length (read_later_lem s).controls) (length (properties (read_later_lem s))) → is2000 t s ≡ false
      → (r : Reading) → reading_of t s ≡ some r → F (length r.controls) (length (properties r))
  unfolding reading_of
  of_later F h o r e =
      let q : cond false (read_by t s (stream_of s)) (some (read_later_lem s)) ≡ some r = rw o at e in
      let g : read_later_lem s ≡ r = cc in
      subst (λ y. F (length y.controls) (length (properties y))) g h

  old-fits : is2000 t s ≡ true → (r : Reading) → reading_of t s ≡ some r → Fits2000 s (length r.controls) (length (properties r))
  old-fits = of_old (Fits2000 s) (fits_2000 s t)

  later-fits : is2000 t s ≡ false → (r : Reading) → reading_of t s ≡ some r → (length (properties r) ≤ (length s - 14) / 18) × (length r.controls ≤ length (properties r))
  later-fits = of_later (λ c p. (p ≤ (length s - 14) / 18) × (c ≤ p)) (go (tree_of s) (ltb (length s) 14) refl refl)
    where
      go : (o : Option (Entries later.Prop)) (b : Bool) → tree_of s ≡ o → ltb (length s) 14 ≡ b
          → (length (properties (read_later_lem s)) ≤ (length s - 14) / 18) × (length (read_later_lem s).controls ≤ length (properties (read_later_lem s)))
      go (some es) b e f = let h = tree-fits s es e in (omega arith, h.1)
      go none false e f = let h = scan-fits s (ltb-false _ _ f) e in (omega arith, h.1)
      go none true e f = let h = short-fits s (ltb-true _ _ f) in (omega arith, omega arith)

  module _ (cs ps : List ℕ) where
    abbrev said : Answer
    said = (exit t s cs ps).answer

    -- ---- whatever is so of the reading's counts is so of those of an answer 0
    from-answer : (F : ℕ → ℕ → Type 0) → ((r : Reading) → reading_of t s ≡ some r → F (length r.controls) (length (properties r))) → said.number ≡ 0 → F said.first said.second
    unfolding exit
    from-answer F f e = go (answer_of (outcome t s (room control_width cs) (room property_width ps))) (blob-told t s cs ps) e
      where
        go : (a : Answer) → BlobAnswer t s cs ps a → a.number ≡ 0 → F a.first a.second
        go _ (BlobAnswer.five h) e = absurd (omega arith)
        go _ (BlobAnswer.eight h w) e = absurd (omega arith)
        go _ (BlobAnswer.four j o w) e = absurd (omega arith)
        go _ (BlobAnswer.six j w h) e = absurd (omega arith)
        go _ (BlobAnswer.seven j w h k) e = absurd (omega arith)
        go _ (BlobAnswer.zero j {r} w h k) e = f r w

    bounds : Bounds t s cs ps (exit t s cs ps)
    bounds = record {
      old = λ o z. let h = from-answer (Fits2000 s) (old-fits o) z in omega (arith, h.least);
      old_spare = λ o z m. let h = (from-answer (Fits2000 s) (old-fits o) z).spare m in omega arith;
      later-tree = λ o es e z. let h = from-answer (λ c p. 6 * c + 18 * p + 14 ≤ length s) (of_later (λ c p. 6 * c + 18 * p + 14 ≤ length s) (tree-fits s es e).0 o) z in omega arith;
      scan = λ o l e z. let h = from-answer (λ c p. (18 * p + 14 ≤ length s) × (c ≤ p)) (of_later (λ c p. (18 * p + 14 ≤ length s) × (c ≤ p)) (scan-fits s l e) o) z in (omega arith, omega arith);
      short = λ o l z. let h = from-answer (λ c p. (c ≡ 0) × (p ≡ 0)) (of_later (λ c p. (c ≡ 0) × (p ≡ 0)) (short-fits s l) o) z in (omega arith, omega arith);
      later-fewer = λ o z. let h = from-answer (λ c p. (p ≤ (length s - 14) / 18) × (c ≤ p)) (later-fits o) z in omega arith;
    }

    -- ---- where there is room for every reading of a stream that isn't too long, no answer is 6 or 7
    never : (length s ≤ 16777216 → (r : Reading) → reading_of t s ≡ some r → (length r.controls ≤ room control_width cs) × (length (properties r) ≤ room property_width ps)) → Never said
    unfolding exit
    never f = go (answer_of (outcome t s (room control_width cs) (room property_width ps))) (blob-told t s cs ps)
      where
        go : (a : Answer) → BlobAnswer t s cs ps a → Never a
        go _ (BlobAnswer.five h) = (λ e. omega arith, λ e. omega arith)
        go _ (BlobAnswer.eight h w) = (λ e. omega arith, λ e. omega arith)
        go _ (BlobAnswer.four j o w) = (λ e. omega arith, λ e. omega arith)
        go _ (BlobAnswer.six j {r} w h) = let k = f j.not_long r w in absurd (omega arith)
        go _ (BlobAnswer.seven j {r} w h i) = let k = f j.not_long r w in absurd (omega arith)
        go _ (BlobAnswer.zero j w h k) = (λ e. omega arith, λ e. omega arith)

    old-enough : (n : ℕ) → length s ≤ n → is2000 t s ≡ true → Lent cs ps (room2000 n) → Never said
    unfolding room2000
    old-enough n l o h = never λ short r e. let k = (old-fits o r e).least in (omega arith, omega arith)

    later-enough : (n : ℕ) → length s ≤ n → is2000 t s ≡ false → Lent cs ps (room_later_lem n) → Never said
    unfolding room_later_lem
    later-enough n l o h = never λ short r e. let k = later-fits o r e in (omega arith, omega arith)

    any-enough : (n : ℕ) → length s ≤ n → Lent cs ps (room_for n) → Never said
    unfolding room_for
    any-enough n l h = go (is2000 t s) refl
      where
        go : (b : Bool) → is2000 t s ≡ b → Never said
        go true o = old-enough n l o (omega arith, omega arith)
        go false o = later-enough n l o (omega arith, omega arith)

    enough : Enough t s cs ps (exit t s cs ps)
    enough = record { any = any-enough; old = old-enough; later = later-enough }

-- ---- TypeInfo
of_type_info : (s : List ℕ) → length (type_info_of s) ≤ u32 s 12
unfolding type_info_of
of_type_info s = reported-few s 32 (u32 s 12)

enough-infos : (s rows : List ℕ) → EnoughInfos s rows (type_info_exit s rows)
unfolding type_info_exit type_info_room_lem
enough-infos s rows n l h = go (type_info_answer s (room type_info_width rows)) (info_told s rows)
  where
    go : (a : Answer) → TypeInfoAnswer s rows a → ¬ (a.number ≡ 6)
    go _ (TypeInfoAnswer.five h) = λ e. omega arith
    go _ (TypeInfoAnswer.one h) = λ e. omega arith
    go _ (TypeInfoAnswer.two h k m) = λ e. omega arith
    go _ (TypeInfoAnswer.three h k m i) = λ e. omega arith
    go _ (TypeInfoAnswer.six j k) = absurd (omega (arith, j.not_long, j.count, of_type_info s))
    go _ (TypeInfoAnswer.zero j k) = λ e. omega arith

pub rooms : Rooms
rooms = record { bounds = bounds; enough = enough; enough-infos = enough-infos; met = λ t formed C P h k l. tight-met t formed C P h (omega arith) l; later-met = later-tight }
