-- What queues weigh, and what turns weigh, by any weight of a command; and how many commands queues have. Assumes nothing.
use Rattle.std.specs.Prelude.{List, [], ◌∷◌, ℕ, ◌+◌, length}

module _ {C : Type 0} where
  -- What a queue weighs, what all of them weigh, and what turns weigh.
  abbrev pub weigh : (C → ℕ) → List C → ℕ
  weigh w [] = 0
  weigh w (c ∷ cs) = w c + weigh w cs

  abbrev pub weigh_all : (C → ℕ) → List (List C) → ℕ
  weigh_all w [] = 0
  weigh_all w (q ∷ qs) = weigh w q + weigh_all w qs

  abbrev pub weigh_turns : (C → ℕ) → List (ℕ × C) → ℕ
  weigh_turns w [] = 0
  weigh_turns w (x ∷ xs) = w x.1 + weigh_turns w xs

  -- How many commands all queues have.
  abbrev pub commands_in : List (List C) → ℕ
  commands_in [] = 0
  commands_in (q ∷ qs) = length q + commands_in qs
