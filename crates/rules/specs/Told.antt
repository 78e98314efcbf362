-- Rust's option for that of the definitions: what the code answers where a definition may say nothing.
use Rattle.std.specs.Prelude.{Option, None, Some}
use Rattle.std.proofs.Math.Option as maybe

abbrev pub told_as : {A B : Type 0} → (A → B) → maybe.Option A → Option B
told_as f maybe.none = None
told_as f (maybe.some x) = Some (f x)

abbrev pub told : {A : Type 0} → maybe.Option A → Option A
told o = told_as (λ x. x) o
