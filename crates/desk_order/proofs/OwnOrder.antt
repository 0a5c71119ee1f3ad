-- Each panel's commands are served in their own order: what a panel is served is its queue, whole and in order, and a panel without a queue is served
-- nothing. Assumes nothing.
use Rattle.std.specs.Prelude.{◌≡◌, refl, Bool, true, false, List, [], ◌∷◌, ◌++◌, ℕ, zero, suc, ◌+◌, ◌≤◌, ◌<◌, length, get_or, take, drop}
use Rattle.std.proofs.Common.{ap, ap₂, ◌∙◌, arith, eq-eqb, ne_eqb}
use Rattle.std.proofs.Math.Seq.{take_all}
use Rattle.laws.specs.Counts.{cons_if}
use Rattle.desk_order.specs.Turns.{heads, tails, rounds, longest, turns, is_of, picks}

module _ {C : Type 0} where
  pub picks-append : (p : ℕ) (xs ys : List (ℕ × C)) → picks p (xs ++ ys) ≡ picks p xs ++ picks p ys
  picks-append p [] ys = refl
  picks-append p (x ∷ xs) ys = go (is_of p x) (picks-append p xs ys)
    where
      go : (b : Bool) → picks p (xs ++ ys) ≡ picks p xs ++ picks p ys →
          cons_if b x.1 (picks p (xs ++ ys)) ≡ cons_if b x.1 (picks p xs) ++ picks p ys
      go true e = ap (x.1 ∷◌) e
      go false e = e

  -- In a round a panel is served the first command of its queue; a panel below those of the round, nothing.
  picks-below : (p low : ℕ) (qs : List (List C)) → p < low → picks p (heads low qs) ≡ []
  picks-below p low [] l = refl
  picks-below p low ([] ∷ qs) l = picks-below p (suc low) qs (omega arith)
  picks-below p low ((c ∷ cs) ∷ qs) l = rw (ne_eqb p low (omega arith)) (picks-below p (suc low) qs (omega arith))

  picks-heads : (i low : ℕ) (qs : List (List C)) → picks (low + i) (heads low qs) ≡ take 1 (get_or qs i [])
  picks-heads i low [] = refl
  picks-heads zero low ([] ∷ qs) = picks-below (low + 0) (suc low) qs (omega arith)
  picks-heads zero low ((c ∷ cs) ∷ qs) = rw (eq-eqb (low + 0) low (omega arith)) (ap (c ∷◌) (picks-below (low + 0) (suc low) qs (omega arith)))
  picks-heads (suc i) low ([] ∷ qs) = ap (λ (p : ℕ). picks p (heads (suc low) qs)) (omega arith) ∙ picks-heads i (suc low) qs
  picks-heads (suc i) low ((c ∷ cs) ∷ qs) =
      rw (ne_eqb (low + suc i) low (omega arith)) (
      ap (λ (p : ℕ). picks p (heads (suc low) qs)) (omega arith) ∙ picks-heads i (suc low) qs
      )

  -- What a round leaves of a queue, and of its first commands.
  pub get_or-tails : (p : ℕ) (qs : List (List C)) → get_or (tails qs) p [] ≡ drop 1 (get_or qs p [])
  get_or-tails p [] = refl
  get_or-tails zero ([] ∷ qs) = refl
  get_or-tails zero ((c ∷ cs) ∷ qs) = refl
  get_or-tails (suc p) ([] ∷ qs) = get_or-tails p qs
  get_or-tails (suc p) ((c ∷ cs) ∷ qs) = get_or-tails p qs

  take_more : (n : ℕ) (q : List C) → take 1 q ++ take n (drop 1 q) ≡ take (suc n) q
  take_more zero [] = refl
  take_more (suc n) [] = refl
  take_more n (c ∷ q) = refl

  pub length_queue : (p : ℕ) (qs : List (List C)) → length (get_or qs p []) ≤ longest qs
  length_queue p [] = omega arith
  length_queue zero (q ∷ qs) = omega arith
  length_queue (suc p) (q ∷ qs) = omega (arith, length_queue p qs)

  -- In so many rounds a panel is served so many commands.
  pub picks-rounds : (n : ℕ) (qs : List (List C)) (p : ℕ) → picks p (rounds n qs) ≡ take n (get_or qs p [])
  picks-rounds zero qs p = refl
  picks-rounds (suc n) qs p =
      let served : picks p (heads 0 qs) ≡ take 1 (get_or qs p []) =
      ap (λ (i : ℕ). picks i (heads 0 qs)) {x = p} {y = 0 + p} (omega arith) ∙ picks-heads p 0 qs
      in
      picks-append p (heads 0 qs) (rounds n (tails qs)) ∙
      ap₂ {B = List C} ◌++◌ served (picks-rounds n (tails qs) p ∙ ap (take n) (get_or-tails p qs)) ∙
      take_more n (get_or qs p [])

  -- OWN ORDER
  pub own_order : (qs : List (List C)) (p : ℕ) → picks p (turns qs) ≡ get_or qs p []
  unfolding turns
  own_order qs p = picks-rounds (longest qs) qs p ∙ take_all (longest qs) (get_or qs p []) (length_queue p qs)
