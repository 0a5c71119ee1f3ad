-- What holds of every turn: its command is one of the queues', and its panel has a queue. Assumes nothing.
use Rattle.std.specs.Prelude.{List, [], ◌∷◌, ℕ, zero, suc, ◌+◌, ◌≤◌, ◌<◌, length}
use Rattle.std.proofs.Common.{arith}
use Rattle.laws.specs.Every.{Every, none, both, every_append}
use Rattle.desk_order.specs.Turns.{heads, tails, rounds, longest, turns}
use Rattle.desk_order.proofs.Rounds.{length-tails}

module _ {C : Type 0} where
  -- THE COMMAND: what holds of every command of every queue holds of that of every turn.
  module _ (P : C → Type 0) where
    pub every-heads : (p : ℕ) {qs : List (List C)} → Every (Every P) qs → Every (λ x. P x.1) (heads p qs)
    every-heads p none = none
    every-heads p (both none e) = every-heads (suc p) e
    every-heads p (both (both h hs) e) = both h (every-heads (suc p) e)

    pub every-tails : {qs : List (List C)} → Every (Every P) qs → Every (Every P) (tails qs)
    every-tails none = none
    every-tails (both none e) = both none (every-tails e)
    every-tails (both (both h hs) e) = both hs (every-tails e)

    pub every-rounds : (n : ℕ) {qs : List (List C)} → Every (Every P) qs → Every (λ x. P x.1) (rounds n qs)
    every-rounds zero e = none
    every-rounds (suc n) e = every_append (every-heads 0 e) (every-rounds n (every-tails e))

    pub every-turns : {qs : List (List C)} → Every (Every P) qs → Every (λ x. P x.1) (turns qs)
    unfolding turns
    every-turns {qs} e = every-rounds (longest qs) e

  -- THE PANEL: it is below the number of queues.
  pub panels-heads : (p high : ℕ) (qs : List (List C)) → p + length qs ≤ high → Every (λ x. x.0 < high) (heads p qs)
  panels-heads p high [] l = none
  panels-heads p high ([] ∷ qs) l = panels-heads (suc p) high qs (omega arith)
  panels-heads p high ((c ∷ cs) ∷ qs) l =
      let below : p < high = omega arith in
      both below (panels-heads (suc p) high qs (omega arith))

  pub panels-rounds : (n high : ℕ) (qs : List (List C)) → length qs ≤ high → Every (λ x. x.0 < high) (rounds n qs)
  panels-rounds zero high qs l = none
  panels-rounds (suc n) high qs l =
      every_append (panels-heads 0 high qs (omega arith)) (panels-rounds n high (tails qs) (omega (arith, length-tails qs)))

  pub panels-turns : (qs : List (List C)) → Every (λ x. x.0 < length qs) (turns qs)
  unfolding turns
  panels-turns qs = panels-rounds (longest qs) (length qs) qs (omega arith)
