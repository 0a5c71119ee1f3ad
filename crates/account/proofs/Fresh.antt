-- A new node: what it is charged is at most three times what any schedule pays that begins in log mode, and one switch to log. Both theorems
-- are that of one node from its first request on. Assumes nothing.
use Rattle.std.specs.Prelude.{List, ℕ, ◌+◌, ◌-◌, ◌*◌, ◌≤◌, ◌<◌}
use Rattle.std.proofs.Common.{arith}
use Rattle.account.specs.declared.Mode.TheVariants.{Log, Disk}
use Rattle.account.specs.declared.Request.{Request}
use Rattle.account.specs.declared.Tariff.{Tariff}
use Rattle.account.specs.Tariff.{switch_to, limit}
use Rattle.account.specs.Serve.{fresh, charges_of}
use Rattle.account.specs.Schedule.{Schedule, paid}
use Rattle.account.specs.Bound.{charges_even}

module _ (t : Tariff) (plan : Schedule) where
  module _ (qs : List Request) (i : ℕ) where
    -- A new node, sharply: the switch to log, so far as it costs more than the switch to disk.
    pub charges-fresh_sharp : 0 < limit t →
        charges_of t qs fresh ≤ 3 * paid t plan qs i Log + (switch_to t Log - switch_to t Disk)
    charges-fresh_sharp some = charges_even t plan qs i Log some

    -- A new node: one switch to log.
    pub charges-fresh : 0 < limit t → charges_of t qs fresh ≤ 3 * paid t plan qs i Log + switch_to t Log
    charges-fresh some = omega (arith, charges_even t plan qs i Log some)
