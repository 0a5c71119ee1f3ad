-- Schedules, what demand 3 compares the charges with (document 01, "What demand 3 compares"). Assumes nothing.
use Rattle.std.specs.Prelude.{List, [], ◌∷◌, ℕ, suc, ◌+◌}
use Rattle.laws.specs.Tests.{choose}
use Rattle.account.specs.declared.Mode.{Mode}
use Rattle.account.specs.declared.Request.{Request}
use Rattle.account.specs.declared.Tariff.{Tariff}
use Rattle.account.specs.Tariff.{differ, cost, switch_to}

-- A schedule: a mode for the node request of each index of a list.
abbrev pub Schedule : Type 0
Schedule = ℕ → Mode

-- What it pays to have a node in a mode now: the switch into it, where the node's mode before was the other.
abbrev pub move_cost : Tariff → Mode → Mode → ℕ
move_cost t before now = choose (differ before now) (switch_to t now) 0

-- What it pays for a request: that, and what the request costs in the mode it named.
abbrev pub pay_for : Tariff → Mode → Mode → Request → ℕ
pay_for t before now q = move_cost t before now + cost t now q

-- What a schedule pays for a list of requests of one node, which has index i first and a mode before.
abbrev pub paid : Tariff → Schedule → List Request → ℕ → Mode → ℕ
paid t plan [] i before = 0
paid t plan (q ∷ qs) i before = pay_for t before (plan i) q + paid t plan qs (suc i) (plan i)

-- The mode in which it has the node after them.
abbrev pub end_of : Schedule → List Request → ℕ → Mode → Mode
end_of plan [] i before = before
end_of plan (q ∷ qs) i before = end_of plan qs (suc i) (plan i)
