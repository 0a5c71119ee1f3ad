-- The ranges of a tariff's numbers (document 01, "Account", first sentence, and question 10): a test, and the facts that it
-- stands for. Assumes nothing.
use Rattle.std.specs.Prelude.{◌≡◌, Bool, true, ◌&&◌, ℕ, ◌*◌, ◌≤◌, ◌<◌, leb}
use Rattle.std.proofs.Common.{arith, leb-true, le-leb}
use Rattle.laws.specs.Tests.{and_left, and_right}
use Rattle.account.specs.declared.Mode.{Mode}
use Rattle.account.specs.declared.Mode.TheVariants.{Log, Disk}
use Rattle.account.specs.declared.Request.{Request}
use Rattle.account.specs.declared.Request.TheVariants.{Read, Edit, Rewrite}
use Rattle.account.specs.declared.Costs.{Costs}
use Rattle.account.specs.declared.Tariff.{Tariff}
use Rattle.account.specs.Tariff.{costs, cost_of, limit}

-- No number of a tariff is more than a million.
abbrev pub most_cost : ℕ
most_cost = 1000000

-- Whether a number is in range, from the least that is allowed.
unfoldable pub within_range : ℕ → ℕ → Bool
within_range least number = leb least number && leb number most_cost

-- Whether a mode's numbers are in range: what its requests cost, 0 to 1,000,000; the switch into it, 1 to 1,000,000.
unfoldable pub costs_in_range : Costs → Bool
costs_in_range c =
    within_range 0 c.read && within_range 0 c.edit && within_range 0 c.rewrite && within_range 1 c.enter

-- Question 10: whether every number of the tariff is in range.
unfoldable pub in_range : Tariff → Bool
in_range t = costs_in_range t.log && costs_in_range t.disk

-- The same, as facts.
pub record Bounded (c : Costs) : Type 0 where
  pub read : c.read ≤ most_cost
  pub edit : c.edit ≤ most_cost
  pub rewrite : c.rewrite ≤ most_cost
  pub some : 1 ≤ c.enter
  pub enter : c.enter ≤ most_cost

pub record Ranged (t : Tariff) : Type 0 where
  pub log : Bounded t.log
  pub disk : Bounded t.disk

-- The test passes where the numbers are in range, and nowhere else.
within_range_le : (least number : ℕ) → within_range least number ≡ true → number ≤ most_cost
unfolding within_range
within_range_le least number e = leb-true number most_cost (and_right (leb least number) (leb number most_cost) e)

within_range_ge : (least number : ℕ) → within_range least number ≡ true → least ≤ number
unfolding within_range
within_range_ge least number e = leb-true least number (and_left (leb least number) (leb number most_cost) e)

within_range_true : (least number : ℕ) → least ≤ number → number ≤ most_cost → within_range least number ≡ true
unfolding within_range
within_range_true least number l m = rw (le-leb least number l, le-leb number most_cost m)

pub bounded_in_range : (c : Costs) → Bounded c → costs_in_range c ≡ true
unfolding costs_in_range
bounded_in_range c b =
    rw (
      within_range_true 0 c.read (omega arith) b.read,
      within_range_true 0 c.edit (omega arith) b.edit,
      within_range_true 0 c.rewrite (omega arith) b.rewrite,
      within_range_true 1 c.enter b.some b.enter,
    )

pub in_range_bounded : (c : Costs) → costs_in_range c ≡ true → Bounded c
unfolding costs_in_range
in_range_bounded c e =
    record {
      read = within_range_le 0 c.read (search (and_left, and_right));
      edit = within_range_le 0 c.edit (search (and_left, and_right));
      rewrite = within_range_le 0 c.rewrite (search (and_left, and_right));
      some = within_range_ge 1 c.enter (search (and_left, and_right));
      enter = within_range_le 1 c.enter (search (and_left, and_right));
    }

pub ranged_in_range : (t : Tariff) → Ranged t → in_range t ≡ true
unfolding in_range
ranged_in_range t r = rw (bounded_in_range t.log r.log, bounded_in_range t.disk r.disk)

pub in_range_ranged : (t : Tariff) → in_range t ≡ true → Ranged t
unfolding in_range
in_range_ranged t e =
    record {
      log = in_range_bounded t.log (and_left (costs_in_range t.log) (costs_in_range t.disk) e);
      disk = in_range_bounded t.disk (and_right (costs_in_range t.log) (costs_in_range t.disk) e);
    }

-- What that says of any mode and any request.
pub costs_bounded : {t : Tariff} → Ranged t → (m : Mode) → Bounded (costs t m)
costs_bounded r Log = r.log
costs_bounded r Disk = r.disk

pub cost_of_le : {c : Costs} → Bounded c → (q : Request) → cost_of c q ≤ most_cost
cost_of_le b Read = b.read
cost_of_le b Edit = b.edit
cost_of_le b Rewrite = b.rewrite

-- The limit T is a number to come to, and at most two million.
pub limit_some : {t : Tariff} → Ranged t → 0 < limit t
limit_some r = omega arith

pub limit_le : {t : Tariff} → Ranged t → limit t ≤ 2 * most_cost
limit_le r = omega arith
