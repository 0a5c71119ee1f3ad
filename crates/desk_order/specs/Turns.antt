-- The order of service (document 02, P5), round robin: the desk "serves one command from each queue that still has any, in panel order, round and round".
-- Queue p is panel p's; what a command is does not matter here. Assumes nothing.
use Rattle.std.specs.Prelude.{◌≡◌, refl, Bool, List, [], ◌∷◌, ◌++◌, map, ℕ, zero, suc, ◌+◌, ◌*◌, max, eqb, length, replicate}
use Rattle.laws.specs.Counts.{count, cons_if}
use Rattle.laws.specs.Tests.{choose}

module _ {C : Type 0} where
  -- A turn is a panel and its command. A round, over the queues from panel p on: the first command of each that still has any ..
  abbrev pub heads : ℕ → List (List C) → List (ℕ × C)
  heads p [] = []
  heads p ([] ∷ qs) = heads (suc p) qs
  heads p ((c ∷ cs) ∷ qs) = (p, c) ∷ heads (suc p) qs

  -- .. and what it leaves of them.
  abbrev pub tails : List (List C) → List (List C)
  tails [] = []
  tails ([] ∷ qs) = [] ∷ tails qs
  tails ((c ∷ cs) ∷ qs) = cs ∷ tails qs

  -- Round and round, so many times.
  abbrev pub rounds : ℕ → List (List C) → List (ℕ × C)
  rounds zero qs = []
  rounds (suc n) qs = heads 0 qs ++ rounds n (tails qs)

  -- How many commands the longest queue has: after so many rounds none is left.
  abbrev pub longest : List (List C) → ℕ
  longest [] = 0
  longest (q ∷ qs) = max (length q) (longest qs)

  -- THE ORDER OF SERVICE
  unfoldable pub turns : List (List C) → List (ℕ × C)
  turns qs = rounds (longest qs) qs

  -- Whether a turn is panel p's; how many are; what panel p is served, in order.
  abbrev pub is_of : ℕ → ℕ × C → Bool
  is_of p x = eqb p x.0

  abbrev pub turns_of : ℕ → List (ℕ × C) → ℕ
  turns_of p xs = count (is_of p) xs

  abbrev pub picks : ℕ → List (ℕ × C) → List C
  picks p [] = []
  picks p (x ∷ xs) = cons_if (is_of p x) x.1 (picks p xs)

  -- How many turns come before the next one of panel p: all are of others.
  abbrev pub waits : ℕ → List (ℕ × C) → ℕ
  waits p [] = 0
  waits p (x ∷ xs) = choose (is_of p x) 0 (suc (waits p xs))

-- Three queues, of three commands, none and one: panels 0, 2, 0, 0. A turn is shown as a number, its panel in the hundreds.
pub worked_turns : map (λ x. 100 * x.0 + x.1) (turns ((1 ∷ 2 ∷ 3 ∷ []) ∷ [] ∷ (9 ∷ []) ∷ [])) ≡ 1 ∷ 209 ∷ 2 ∷ 3 ∷ []
unfolding turns
worked_turns = refl

-- In every round the panels rise: five queues, the last the longest, in three rounds; and sixteen of one command each.
pub worked_rounds :
    map (λ x. 100 * x.0 + x.1) (turns ((1 ∷ 2 ∷ []) ∷ (3 ∷ []) ∷ (4 ∷ 5 ∷ []) ∷ [] ∷ (6 ∷ 7 ∷ 8 ∷ []) ∷ [])) ≡
    1 ∷ 103 ∷ 204 ∷ 406 ∷ 2 ∷ 205 ∷ 407 ∷ 408 ∷ []
unfolding turns
worked_rounds = refl

pub worked_sixteen : map (λ x. x.0) (turns {C = ℕ} (replicate 16 (9 ∷ []))) ≡ 0 ∷ 1 ∷ 2 ∷ 3 ∷ 4 ∷ 5 ∷ 6 ∷ 7 ∷ 8 ∷ 9 ∷ 10 ∷ 11 ∷ 12 ∷ 13 ∷ 14 ∷ 15 ∷ []
unfolding turns
worked_sixteen = refl
