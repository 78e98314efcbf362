-- From what the code answers back to what the definition says.
use Rattle.std.proofs.Common.{◌≡◌, refl, Option, None, Some}
use Rattle.std.proofs.Math.Option as maybe
use Rattle.rules.specs.Told.{told_as, told}

pub told_as_some : {A B : Type 0} (f : A → B) {y : B} (o : maybe.Option A) (r : Option B) → r ≡ told_as f o → r ≡ Some y → (x : A) × (o ≡ maybe.some x) × (f x ≡ y)
told_as_some f maybe.none r e k = cc
told_as_some f (maybe.some x) r e k = (x, refl, cc)

pub told_as_none : {A B : Type 0} (f : A → B) (o : maybe.Option A) (r : Option B) → r ≡ told_as f o → r ≡ None → o ≡ maybe.none
told_as_none f maybe.none r e k = refl
told_as_none f (maybe.some x) r e k = cc

pub told_some : {A : Type 0} {y : A} (o : maybe.Option A) (r : Option A) → r ≡ told o → r ≡ Some y → o ≡ maybe.some y
told_some maybe.none r e k = cc
told_some (maybe.some x) r e k = cc

pub told_none : {A : Type 0} (o : maybe.Option A) (r : Option A) → r ≡ told o → r ≡ None → o ≡ maybe.none
told_none maybe.none r e k = refl
told_none (maybe.some x) r e k = cc
