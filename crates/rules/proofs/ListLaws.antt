-- Laws of lists, tests and what may be missing. Nothing here is of the format.
use Prim.Native.Nat.{ℕ, zero, suc, ◌+◌, ◌≤◌, ◌<◌}
use native.Mathlib.Omega.{arith}
use mathlib.Core.Path.{◌≡◌, refl, sym, ap, ◌∙◌}
use mathlib.Core.Bool.{Bool, true, false, cond, ◌&&◌}
use mathlib.Core.List.{List, [], ◌∷◌, ◌++◌, map, append_assoc, Memᴰ}
use mathlib.Core.Option.{Option, none, some}
use lib.Dec.{leb}
use lib.ListN.{length, get_or, set}
use lib.Seq.{sets}
use borrow.Author.Tests.{leb-true}
use Rattle.rules.specs.Lists.{◌>>=◌, concat, all, find, ascends}

-- ---- tests
pub and_l : (a b : Bool) → (a && b) ≡ true → a ≡ true
and_l true b e = refl
and_l false b e = e

pub and_r : (a b : Bool) → (a && b) ≡ true → b ≡ true
and_r true b e = e
and_r false true e = refl
and_r false false e = e

pub none_some : {A : Type 0} {r : A} → none ≡ some r → ⊥
none_some e = let z : ◌≡◌ {A = ℕ} 0 1 = cc in omega arith

-- ---- map, concat
pub map-append : {A B : Type 0} (f : A → B) (xs ys : List A) → map f (xs ++ ys) ≡ map f xs ++ map f ys
map-append f [] ys = refl
map-append f (x ∷ xs) ys = ap (λ l. f x ∷ l) (map-append f xs ys)

pub map-map : {A B C : Type 0} (f : B → C) (g : A → B) (xs : List A) → map f (map g xs) ≡ map (λ x. f (g x)) xs
map-map f g [] = refl
map-map f g (x ∷ xs) = ap (λ l. f (g x) ∷ l) (map-map f g xs)

pub get_d_map : {A B : Type 0} (f : A → B) (xs : List A) (i : ℕ) (d : A) (e : B) → i < length xs → get_or (map f xs) i e ≡ f (get_or xs i d)
get_d_map f [] i d e h = absurd (omega arith)
get_d_map f (x ∷ xs) zero d e h = refl
get_d_map f (x ∷ xs) (suc i) d e h = get_d_map f xs i d e (omega arith)

pub concat-append : {A : Type 0} (a b : List (List A)) → concat (a ++ b) ≡ concat a ++ concat b
unfolding concat
concat-append [] b = refl
concat-append (x ∷ a) b = ap (λ l. x ++ l) (concat-append a b) ∙ sym (append_assoc x (concat a) (concat b))

pub sets-append : (l : List ℕ) (i : ℕ) (a b : List ℕ) → sets l i (a ++ b) ≡ sets (sets l i a) (i + length a) b
sets-append l i [] b = ap (λ (n : ℕ). sets l n b) (omega arith)
sets-append l i (x ∷ xs) b = sets-append (set l i x) (suc i) xs b ∙ ap (λ (n : ℕ). sets (sets (set l i x) (suc i) xs) n b) (omega arith)

-- ---- all, find
pub all_there : {A : Type 0} (p : A → Bool) (xs : List A) (x : A) → all p xs ≡ true → Memᴰ x xs → p x ≡ true
unfolding all
all_there p [] x e m = elim m [ ]
all_there p (y ∷ ys) x e (Memᴰ.head q) = ap p q ∙ and_l (p y) (all p ys) e
all_there p (y ∷ ys) x e (Memᴰ.tail m) = all_there p ys x (and_r (p y) (all p ys) e) m

-- what is found is there, and passes the test
pub found-there : {A : Type 0} (p : A → Bool) (xs : List A) (x : A) → find p xs ≡ some x → Memᴰ x xs × (p x ≡ true)
unfolding find
found-there p [] x e = absurd (none_some e)
found-there p (y ∷ ys) x e = go (found-there p ys x) (p y) refl e
  where
    go : (find p ys ≡ some x → Memᴰ x ys × (p x ≡ true))
        → (b : Bool) → p y ≡ b → cond b (some y) (find p ys) ≡ some x → Memᴰ x (y ∷ ys) × (p x ≡ true)
    go rec true q h = let e : y ≡ x = cc in (Memᴰ.head (sym e), ap p (sym e) ∙ q)
    go rec false q h = let r = rec h in (Memᴰ.tail r.0, r.1)

-- ---- a list whose numbers ascend
module _ {A : Type 0} (f : A → ℕ) where
  pub ascends-head : (least : ℕ) (y : A) (ys : List A) → ascends least (map f (y ∷ ys)) ≡ true → (least ≤ f y) × (ascends (f y + 1) (map f ys) ≡ true)
  unfolding ascends
  ascends-head least y ys e = (leb-true _ _ (and_l (leb least (f y)) (ascends (f y + 1) (map f ys)) e), and_r (leb least (f y)) (ascends (f y + 1) (map f ys)) e)

  -- nothing in it is below where it starts
  pub ascends-least : (least : ℕ) (xs : List A) (x : A) → ascends least (map f xs) ≡ true → Memᴰ x xs → least ≤ f x
  ascends-least least [] x e m = elim m [ ]
  ascends-least least (y ∷ ys) x e (Memᴰ.head p) = rw p (ascends-head least y ys e).0
  ascends-least least (y ∷ ys) x e (Memᴰ.tail m) =
      let h = ascends-head least y ys e in
      let b = ascends-least (f y + 1) ys x h.1 m in
      omega arith

  -- what is there is found, by a test that only its number passes
  pub there-found : (p : A → Bool) (least : ℕ) (xs : List A) (x : A) → ((y : A) → p y ≡ true → f y ≡ f x) → p x ≡ true
      → ascends least (map f xs) ≡ true → Memᴰ x xs → find p xs ≡ some x
  unfolding find
  there-found p least [] x only px e m = elim m [ ]
  there-found p least (y ∷ ys) x only px e (Memᴰ.head q) = rw (ap p (sym q) ∙ px) (ap some (sym q))
  there-found p least (y ∷ ys) x only px e (Memᴰ.tail m) =
      let h = ascends-head least y ys e in
      let b = ascends-least (f y + 1) ys x h.1 m in
      go (p y) refl (there-found p (f y + 1) ys x only px h.1 m) b
    where
      go : (t : Bool) → p y ≡ t → find p ys ≡ some x → f y + 1 ≤ f x → cond t (some y) (find p ys) ≡ some x
      go true q rec b = let same = only y q in absurd (omega arith)
      go false q rec b = rec

-- ---- what holds of whatever a reader reads, by the way that the reader is put together
abbrev pub Every : {A : Type 0} → (A → Type 0) → Option A → Type 0
Every P none = Unit
Every P (some a) = P a

pub every_if : {A : Type 0} (P : A → Type 0) (b : Bool) (x y : Option A) → (b ≡ true → Every P x) → (b ≡ false → Every P y) → Every P (cond b x y)
every_if P true x y f g = f refl
every_if P false x y f g = g refl

pub every_then : {A B : Type 0} (P : A → Type 0) (Q : B → Type 0) (o : Option A) (f : A → Option B) → Every P o → ((a : A) → P a → Every Q (f a)) → Every Q (o >>= f)
every_then P Q none f h k = tt
every_then P Q (some a) f h k = k a h

-- after a reader, with what it read
pub every_when : {A B : Type 0} (Q : B → Type 0) (o : Option A) (f : A → Option B) → ((a : A) → o ≡ some a → Every Q (f a)) → Every Q (o >>= f)
every_when Q none f k = tt
every_when Q (some a) f k = k a refl

-- two ways on agree where they agree on what can be read
pub then_same : {A B : Type 0} (P : A → Type 0) (o : Option A) (f g : A → Option B) → Every P o → ((a : A) → P a → f a ≡ g a) → (o >>= f) ≡ (o >>= g)
then_same P none f g h k = refl
then_same P (some a) f g h k = k a h

pub every_at : {A : Type 0} (P : A → Type 0) (o : Option A) (a : A) → Every P o → o ≡ some a → P a
every_at P o a h e = rw e at h
