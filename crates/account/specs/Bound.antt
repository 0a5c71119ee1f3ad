-- One node: what it is charged is at most three times what any schedule pays, and an allowance that does not grow with the list.
-- Each theorem is an instance of the first, at the potential of its start. Assumes nothing.
use Rattle.std.specs.Prelude.{List, [], ◌∷◌, ℕ, suc, ◌+◌, ◌*◌, ◌≤◌, ◌<◌}
use Rattle.std.proofs.Common.{arith}
use Rattle.account.specs.declared.Mode.{Mode}
use Rattle.account.specs.declared.Request.{Request}
use Rattle.account.specs.declared.Tariff.{Tariff}
use Rattle.account.specs.declared.Account.{Account}
use Rattle.account.specs.Tariff.{limit}
use Rattle.account.specs.Serve.{serve_of, charges_of, account_after}
use Rattle.account.specs.ServeLaws.{serve_low, after_low}
use Rattle.account.specs.Schedule.{Schedule, paid, end_of}
use Rattle.account.specs.Potential.{potential, allowance, potential_step, potential_most, potential-fresh}

module _ (t : Tariff) (plan : Schedule) where
  -- From any account whose score is below the limit T, and any mode of the schedule: charges and the potential at the end.
  pub charges_from : (qs : List Request) (i : ℕ) (a : Account) (before : Mode) → a.score < limit t →
      charges_of t qs a + potential t (account_after t qs a) (end_of plan qs i before) ≤
      3 * paid t plan qs i before + potential t a before
  charges_from [] i a before low = omega arith
  charges_from (q ∷ qs) i a before low =
      omega (
        arith,
        potential_step t a low q before (plan i),
        charges_from qs (suc i) (serve_of t a q).account (plan i) (serve_low t a q (omega arith)),
      )

  module _ (qs : List Request) (i : ℕ) where
    -- A node with score 0 in any mode, and a schedule that begins in that mode: one allowance.
    pub charges_even : (m : Mode) → 0 < limit t →
        charges_of t qs (record { mode = m; score = 0 }) ≤ 3 * paid t plan qs i m + allowance t m
    charges_even m some =
        omega (arith, charges_from qs i (record { mode = m; score = 0 }) m some, potential-fresh t m)

    -- Any stretch of requests, after any others, against any schedule of it that begins in either mode: three times both switches.
    pub charges_stretch : (earlier : List Request) (a : Account) (before : Mode) → a.score < limit t →
        charges_of t qs (account_after t earlier a) ≤ 3 * paid t plan qs i before + 3 * limit t
    charges_stretch earlier a before low =
        let now : (account_after t earlier a).score < limit t = after_low t earlier a low in
        omega (
          arith,
          charges_from qs i (account_after t earlier a) before now,
          potential_most t (account_after t earlier a) now before,
        )
