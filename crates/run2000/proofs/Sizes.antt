-- A value has as many bytes as its id tells.
use Prim.Native.Nat.{ℕ}
use mathlib.Core.Path.{◌≡◌}
use mathlib.Core.List.{List}
use Rattle.std.proofs.Common.{Option, Some}
use Rattle.rules.specs.Bytes.{byte}
use Rattle.rules.specs.Access2000.{property_at}
use Rattle.rules.specs.Told.{told_as}
use Rattle.rules.proofs.ListLaws.{every_at}
use Rattle.propvalue.specs.Sized.{Sized}
use Rattle.walk2000.proofs.Extents.{property-sized}
use Rattle.walk2000.specs.Told as told
use Rattle.walk2000.specs.declared.Extent.{Extent}
use Rattle.run2000.proofs.RunSteps.{property-is}

pub value-sized : (s : List ℕ) (p : ℕ) (r : Option Extent) (v : Extent) → r ≡ told_as told.value (property_at s p) → r ≡ Some v → Sized (byte s p) v.size
value-sized s p r v e k = every_at (λ q. Sized (byte s p) q.size) (property_at s p) _ (property-sized s p) (property-is s p r v e k)
