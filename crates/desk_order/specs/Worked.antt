-- Worked orders of service, with numbers for commands: whose turn it is and with which command. Assumes nothing.
use Rattle.std.specs.Prelude.{◌≡◌, refl, List, [], ◌∷◌, map, ℕ, ◌+◌, drop}
use Rattle.laws.specs.Update.{list_below}
use Rattle.desk_order.specs.Turns.{turns, picks, waits}

-- Queues and their turns: none; three without a command; one alone; a panel that is done is passed over, and every round begins at panel 0.
abbrev orders : List (List (List ℕ) × List (ℕ × ℕ))
orders =
    ([], []) ∷
    ([] ∷ [] ∷ [] ∷ [], []) ∷
    ((1 ∷ 2 ∷ 3 ∷ 4 ∷ []) ∷ [], (0, 1) ∷ (0, 2) ∷ (0, 3) ∷ (0, 4) ∷ []) ∷
    ((1 ∷ 2 ∷ []) ∷ (3 ∷ []) ∷ (5 ∷ 6 ∷ 7 ∷ []) ∷ [], (0, 1) ∷ (1, 3) ∷ (2, 5) ∷ (0, 2) ∷ (2, 6) ∷ (2, 7) ∷ []) ∷
    []

pub worked_orders : map {B = List (List ℕ) × List (ℕ × ℕ)} (λ o. (o.0, turns o.0)) orders ≡ orders
unfolding turns
worked_orders = refl

-- Sixteen queues of one command: panel after panel.
pub worked_sixteen : turns (list_below 16 (λ p. (100 + p) ∷ [])) ≡ list_below 16 (λ p. (p, 100 + p))
unfolding turns
worked_sixteen = refl

-- Sixteen queues of two: from the start panel 15 waits for 15 others; behind its first turn panel 6 waits for 15, and is served its own two.
abbrev pairs : List (List ℕ)
pairs = list_below 16 (λ p. (100 + p) ∷ (200 + p) ∷ [])

pub worked_waits : waits 15 (turns pairs) ∷ waits 6 (drop 7 (turns pairs)) ∷ [] ≡ 15 ∷ 15 ∷ []
unfolding turns
worked_waits = refl

pub worked_picks : picks 6 (turns pairs) ≡ 106 ∷ 206 ∷ []
unfolding turns
worked_picks = refl
