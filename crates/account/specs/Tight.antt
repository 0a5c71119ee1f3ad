-- The two numbers of the bound are needed, each shown by one list of requests that is charged more: twice a schedule is too
-- little, and so is three times a schedule with no allowance. Assumes nothing.
use Rattle.std.specs.Prelude.{List, [], ◌∷◌, ◌++◌, ◌+◌, ◌*◌, ◌<◌}
use Rattle.std.proofs.Common.{arith}
use Rattle.account.specs.declared.Mode.TheVariants.{Log, Disk}
use Rattle.account.specs.declared.Request.{Request}
use Rattle.account.specs.declared.Request.TheVariants.{Read, Edit}
use Rattle.account.specs.declared.Tariff.{Tariff}
use Rattle.account.specs.Tariff.{tariff_of, switch_to}
use Rattle.account.specs.Serve.{serve_of, fresh, charges_of}
use Rattle.account.specs.Schedule.{paid}

-- Reads are free in disk mode and edits in log mode; every other request costs 1, and each switch 2.
abbrev even_tariff : Tariff
even_tariff = tariff_of 1 0 0 0 1 1 2 2

-- As many reads as it takes to leave log mode, then as many edits as it takes to come back.
abbrev round_trip : List Request
round_trip = Read ∷ Read ∷ Read ∷ Read ∷ Edit ∷ Edit ∷ Edit ∷ Edit ∷ []

-- Two such rounds are charged 20, and a schedule that stays in log mode pays 8.
pub two_is_short :
    2 * paid even_tariff (λ i. Log) (round_trip ++ round_trip) 0 Log + switch_to even_tariff Log <
    charges_of even_tariff (round_trip ++ round_trip) fresh
unfolding serve_of
two_is_short = omega arith

-- The same, with a switch to log at 5 and to disk at 1: six reads are charged 6, and a schedule in disk mode pays 1.
pub allowance-is_needed :
    let t : Tariff = tariff_of 1 0 0 0 1 1 1 5 in
    let reads : List Request = Read ∷ Read ∷ Read ∷ Read ∷ Read ∷ Read ∷ [] in
    3 * paid t (λ i. Disk) reads 0 Log < charges_of t reads fresh
unfolding serve_of
allowance-is_needed = omega arith
