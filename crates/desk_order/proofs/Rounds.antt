-- What a round leaves: as many queues, each a command shorter. The order is a round first, then the order of what it leaves. Assumes nothing.
use Rattle.std.specs.Prelude.{◌≡◌, refl, List, [], ◌∷◌, ◌++◌, length}
use Rattle.std.proofs.Math.Path.{ap}
use Prim.Native.Nat.{ℕ, suc, ◌-◌, ◌≤◌}
use Rattle.std.proofs.Common.{arith}
use Rattle.desk_order.specs.Turns.{heads, tails, rounds, longest, turns}

module _ {C : Type 0} where
  pub length-tails : (qs : List (List C)) → length (tails qs) ≡ length qs
  length-tails [] = refl
  length-tails ([] ∷ qs) = ap suc (length-tails qs)
  length-tails ((c ∷ cs) ∷ qs) = ap suc (length-tails qs)

  pub longest-tails : (qs : List (List C)) → longest (tails qs) ≡ longest qs - 1
  longest-tails [] = refl
  longest-tails ([] ∷ qs) = omega (arith, longest-tails qs)
  longest-tails ((c ∷ cs) ∷ qs) = omega (arith, longest-tails qs)

  -- A ROUND FIRST
  pub turns_round : (qs : List (List C)) → 1 ≤ longest qs → turns qs ≡ heads 0 qs ++ turns (tails qs)
  unfolding turns
  turns_round qs l =
      let e : longest qs ≡ suc (longest (tails qs)) = omega (arith, longest-tails qs) in
      ap (λ (n : ℕ). rounds n qs) e

  -- No command, no turn.
  pub turns-none : (qs : List (List C)) → longest qs ≡ 0 → turns qs ≡ []
  unfolding turns
  turns-none qs e = ap (λ (n : ℕ). rounds n qs) e
