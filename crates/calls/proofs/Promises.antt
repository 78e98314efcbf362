-- All that is promised holds.
use Rattle.claims.proofs.Claims.{claims}
use Rattle.calls.specs.Promises.{Promises}
use Rattle.calls.proofs.Calls.{calls_hold}

pub promises : Promises
promises = record { claims = claims; calls = calls_hold }
