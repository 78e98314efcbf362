-- All that is promised. That it holds is proved in proofs/Promises.antt.
use Rattle.claims.specs.Claims.{Claims}
use Rattle.calls.specs.Calls.{Calls}

pub record Promises : Type 2 where
  -- over the definitions
  pub claims : Claims
  -- the same of every call of the public functions, those of `oskuramos` among them, and that their contracts allow one result only
  pub calls : Calls
