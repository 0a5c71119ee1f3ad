-- The potential: how far the charges may still run ahead of three times a schedule. It never is below 0, a schedule's switch raises
-- it by at most three times the switch, and a request served raises charge and potential together by at most three times what
-- the schedule pays for it. So charges are at most three times the schedule and the potential at the start. Assumes nothing.
use Rattle.std.specs.Prelude.{◌≡◌, Bool, true, false, ◌⊎◌, ℕ, ◌+◌, ◌-◌, ◌*◌, ◌≤◌, ◌<◌}
use Rattle.std.proofs.Common.{inl, inr, arith}
use Rattle.laws.specs.Order.{le_or}
use Rattle.account.specs.declared.Mode.{Mode}
use Rattle.account.specs.declared.Mode.TheVariants.{Log, Disk}
use Rattle.account.specs.declared.Request.{Request}
use Rattle.account.specs.declared.Tariff.{Tariff}
use Rattle.account.specs.declared.Account.{Account}
use Rattle.account.specs.declared.Served.{Served}
use Rattle.account.specs.Tariff.{other, differ, cost, switch_to, limit, limit-both}
use Rattle.account.specs.Serve.{score_of, switched_of, stayed_of, serve_of}
use Rattle.account.specs.ServeLaws.{serve-switched, serve_stayed}
use Rattle.account.specs.Schedule.{move_cost, pay_for}

-- What an account in a mode may be charged beyond three times a schedule that begins in the same mode: the switch back into it, so
-- far as it costs more than the switch out of it.
abbrev pub allowance : Tariff → Mode → ℕ
allowance t m = switch_to t m - switch_to t (other m)

pub allowance_le : (t : Tariff) (m : Mode) → allowance t m ≤ switch_to t m
allowance_le t m = omega arith

-- The potential in numbers: `home` is the switch into the account's mode and `away` the one out of it; the test says whether the
-- schedule has the node in the other mode. With the score below `home + away` no difference after a sum comes to its floor.
abbrev pub weigh : Bool → ℕ → ℕ → ℕ → ℕ
weigh false home away score = 2 * score + (home - away)
weigh true home away score = 3 * away + (home - away) - score

abbrev pub potential : Tariff → Account → Mode → ℕ
potential t a m = weigh (differ a.mode m) (switch_to t a.mode) (switch_to t (other a.mode)) a.score

-- The six steps in numbers, for either mode. `here` and `there` are what the request costs in the account's mode and in the other.
module _ (home away score : ℕ) (low : score < home + away) where
  parts : weigh true home away score ≤ 3 * away + weigh false home away score
  parts = omega arith

  joins : weigh false home away score ≤ 3 * home + weigh true home away score
  joins = omega arith

  module _ (here there : ℕ) where
    stays_together : here + weigh false home away (score + here - there) ≤ 3 * here + weigh false home away score
    stays_together = omega arith

    stays_apart : score + here - there < home + away →
        here + weigh true home away (score + here - there) ≤ 3 * there + weigh true home away score
    stays_apart h = omega arith

    leaves_together : home + away ≤ score + here - there →
        away + there + weigh true away home 0 ≤ 3 * here + weigh false home away score
    leaves_together h = omega arith

    leaves_apart : home + away ≤ score + here - there →
        away + there + weigh false away home 0 ≤ 3 * there + weigh true home away score
    leaves_apart h = omega arith

-- The same of an account in any mode, with the schedule in any mode: each case is one of the six.
module _ (t : Tariff) (score : ℕ) where
  abbrev in_mode : Mode → Account
  in_mode k = record { mode = k; score = score }

  abbrev both : Mode → ℕ
  both k = switch_to t k + switch_to t (other k)

  moves : (k before now : Mode) → score < both k →
      potential t (in_mode k) now ≤ 3 * move_cost t before now + potential t (in_mode k) before
  moves Log Log Log l = omega arith
  moves Log Log Disk l = parts _ _ score l
  moves Log Disk Log l = joins _ _ score l
  moves Log Disk Disk l = omega arith
  moves Disk Log Log l = omega arith
  moves Disk Log Disk l = joins _ _ score l
  moves Disk Disk Log l = parts _ _ score l
  moves Disk Disk Disk l = omega arith

  module _ (q : Request) where
    -- A served request, with the schedule in the mode `now`.
    abbrev Step : Mode → Mode → Served → Type 0
    Step k now r = r.charge + potential t r.account now ≤ 3 * cost t now q + potential t (in_mode k) now

    leaves : (k now : Mode) → score < both k → both k ≤ score_of t (in_mode k) q → Step k now (switched_of t (in_mode k) q)
    leaves Log Log l h = leaves_together _ _ score l _ _ h
    leaves Log Disk l h = leaves_apart _ _ score l _ _ h
    leaves Disk Log l h = leaves_apart _ _ score l _ _ h
    leaves Disk Disk l h = leaves_together _ _ score l _ _ h

    stays : (k now : Mode) → score < both k → score_of t (in_mode k) q < both k →
        Step k now (stayed_of t (in_mode k) q (score_of t (in_mode k) q))
    stays Log Log l h = stays_together _ _ score l _ _
    stays Log Disk l h = stays_apart _ _ score l _ _ h
    stays Disk Log l h = stays_apart _ _ score l _ _ h
    stays Disk Disk l h = stays_together _ _ score l _ _

module _ (t : Tariff) (a : Account) (low : a.score < limit t) where
  -- A schedule's switch.
  pub potential_move : (before now : Mode) → potential t a now ≤ 3 * move_cost t before now + potential t a before
  potential_move before now = moves t a.score a.mode before now (rw (limit-both t a.mode) at low)

  -- A request served, with the schedule in its mode for it.
  potential-serve : (q : Request) (now : Mode) → Step t a.score q a.mode now (serve_of t a q)
  potential-serve q now = go (le_or (limit t) (score_of t a q))
    where
      l : a.score < both t a.score a.mode
      l = omega (arith, limit-both t a.mode)

      go : (limit t ≤ score_of t a q) ⊎ (score_of t a q < limit t) → Step t a.score q a.mode now (serve_of t a q)
      go (inl h) = rw (serve-switched t a q h) (leaves t a.score q a.mode now l (omega (arith, limit-both t a.mode)))
      go (inr h) = rw (serve_stayed t a q h) (stays t a.score q a.mode now l (omega (arith, limit-both t a.mode)))

  -- Both: a request, which the schedule serves in the mode `now` after the mode `before`.
  pub potential_step : (q : Request) (before now : Mode) →
      (serve_of t a q).charge + potential t (serve_of t a q).account now ≤ 3 * pay_for t before now q + potential t a before
  potential_step q before now = omega (arith, potential_move before now, potential-serve q now)

  -- The potential is never more than three times both switches, whatever modes account and schedule are in.
  pub potential_most : (m : Mode) → potential t a m ≤ 3 * limit t
  potential_most m = go (differ a.mode m)
    where
      go : (b : Bool) → weigh b (switch_to t a.mode) (switch_to t (other a.mode)) a.score ≤ 3 * limit t
      go false = omega (arith, limit-both t a.mode)
      go true = omega (arith, limit-both t a.mode)

-- With the score at 0 and the schedule in the same mode it is the allowance of that mode.
pub potential-fresh : (t : Tariff) (m : Mode) → potential t (record { mode = m; score = 0 }) m ≡ allowance t m
potential-fresh t Log = omega arith
potential-fresh t Disk = omega arith
