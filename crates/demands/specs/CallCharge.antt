-- What a call is charged fits in 64 bits, whatever its pool and its buffers hold. Assumes nothing.
use Rattle.std.specs.Prelude.{◌≡◌, refl, List, ℕ, ◌^◌, ◌<◌}
use Rattle.std.proofs.Common.{ap, arith}
use Rattle.laws.specs.BigEndian.{Bytes}
use Rattle.book.specs.EachPanel.{sum_each}
use Rattle.model.specs.Outcome.{Outcome, charge}
use Rattle.model.specs.Call.{Call, outcome}
use Rattle.demands.specs.ChargesFit.{batch_charge-fits}
use Rattle.demands.specs.Ends.{Ends, refused, done, call_ends}
use Rattle.demands.specs.CallBytes.{CallBytes, run-bytes}
use Rattle.demands.specs.OneCall.{called}
use Rattle.demands.specs.Obeys.{obeys_stands, opens_obeys}

pub call-charge-fits : (pool : List ℕ) → Bytes pool → (c : Call) → CallBytes c → charge (outcome pool c) < 2 ^ 44
call-charge-fits pool bytes c own = go (outcome pool c) refl (call_ends pool c)
  where
    go : (o : Outcome) → outcome pool c ≡ o → Ends pool c o → charge (outcome pool c) < 2 ^ 44
    go o e (refused n l) = omega (arith, ap charge e, sum_each (λ q. 0))
    go o e (done p t s m) =
        let x = opens_obeys pool bytes t s p.size m in
        omega (arith, (called (obeys_stands x.obeys _ x.book) c (run-bytes c own)).few, batch_charge-fits)
