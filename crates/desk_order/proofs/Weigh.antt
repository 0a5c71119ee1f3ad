-- Whatever a command weighs, the turns weigh what the queues weigh: nothing is served twice, and nothing is left. With a weight of 1 this counts the
-- turns; with another it adds up their bytes, or the room that they ask for. Assumes nothing.
use Rattle.std.specs.Prelude.{◌≡◌, refl, List, [], ◌∷◌, ◌++◌, ℕ, zero, suc, ◌+◌, ◌≤◌, length}
use Rattle.std.proofs.Common.{arith}
use Rattle.desk_order.specs.Turns.{heads, tails, rounds, longest, turns}
use Rattle.desk_order.proofs.Rounds.{longest-tails}
use Rattle.desk_order.specs.Weigh.{weigh, weigh_all, weigh_turns, commands_in}

module _ {C : Type 0} where
  module _ (w : C → ℕ) where
    pub weigh_turns-append : (xs ys : List (ℕ × C)) → weigh_turns w (xs ++ ys) ≡ weigh_turns w xs + weigh_turns w ys
    weigh_turns-append [] ys = omega arith
    weigh_turns-append (x ∷ xs) ys = omega (arith, weigh_turns-append xs ys)

    -- A round and what it leaves weigh what there was; queues without a command weigh nothing.
    pub round_weigh : (p : ℕ) (qs : List (List C)) → weigh_turns w (heads p qs) + weigh_all w (tails qs) ≡ weigh_all w qs
    round_weigh p [] = refl
    round_weigh p ([] ∷ qs) = omega (arith, round_weigh (suc p) qs)
    round_weigh p ((c ∷ cs) ∷ qs) = omega (arith, round_weigh (suc p) qs)

    none-weigh : (qs : List (List C)) → longest qs ≤ 0 → weigh_all w qs ≡ 0
    none-weigh [] l = refl
    none-weigh ([] ∷ qs) l = omega (arith, none-weigh qs (omega (arith, l)))
    none-weigh ((c ∷ cs) ∷ qs) l = absurd (omega (arith, l))

    pub rounds-weigh : (n : ℕ) (qs : List (List C)) → longest qs ≤ n → weigh_turns w (rounds n qs) ≡ weigh_all w qs
    rounds-weigh zero qs l = omega (arith, none-weigh qs l)
    rounds-weigh (suc n) qs l =
        omega (
          arith,
          weigh_turns-append (heads 0 qs) (rounds n (tails qs)),
          round_weigh 0 qs,
          rounds-weigh n (tails qs) (omega (arith, longest-tails qs)),
        )

    -- ALL TURNS weigh what all queues weigh.
    pub turns-weigh : (qs : List (List C)) → weigh_turns w (turns qs) ≡ weigh_all w qs
    unfolding turns
    turns-weigh qs = rounds-weigh (longest qs) qs (omega arith)

  -- With a weight of 1: as many turns as commands.
  weigh_ones : (q : List C) → weigh (λ c. 1) q ≡ length q
  weigh_ones [] = refl
  weigh_ones (c ∷ q) = omega (arith, weigh_ones q)

  weigh_all_ones : (qs : List (List C)) → weigh_all (λ c. 1) qs ≡ commands_in qs
  weigh_all_ones [] = refl
  weigh_all_ones (q ∷ qs) = omega (arith, weigh_all_ones qs, weigh_ones q)

  weigh_turns_ones : (xs : List (ℕ × C)) → weigh_turns (λ c. 1) xs ≡ length xs
  weigh_turns_ones [] = refl
  weigh_turns_ones (x ∷ xs) = omega (arith, weigh_turns_ones xs)

  pub length-turns : (qs : List (List C)) → length (turns qs) ≡ commands_in qs
  length-turns qs = omega (arith, weigh_turns_ones (turns qs), turns-weigh (λ c. 1) qs, weigh_all_ones qs)
