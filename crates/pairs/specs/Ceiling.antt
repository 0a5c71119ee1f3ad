-- The next key up (document 02, P3: "that route or the nearest above"): what it is, and worked. Assumes nothing.
use Rattle.std.specs.Prelude.{◌≡◌, refl, List, [], ◌∷◌, map, ℕ, ◌≤◌, ◌<◌, Option, None, Some}
use Rattle.pairs.specs.Pairs.{Pair, lookup, ceiling}

-- A pair is the nearest of a map: it is in the map, at or above the key, and nothing of the map lies between.
pub record Nearest (lookup : ℕ → List Pair → Option ℕ) (k : ℕ) (ps : List Pair) (p : Pair) : Type 0 where
  pub above : k ≤ p.0
  pub there : lookup p.0 ps ≡ Some p.1
  pub between : (j : ℕ) → k ≤ j → j < p.0 → lookup j ps ≡ None

-- What is answered is the nearest pair; no pair, where no key of the map is at or above.
abbrev pub CeilingIs : (ℕ → List Pair → Option ℕ) → ℕ → List Pair → Option Pair → Type 0
CeilingIs lookup k ps (Some p) = Nearest lookup k ps p
CeilingIs lookup k ps None = (j : ℕ) → k ≤ j → lookup j ps ≡ None

-- Worked, of keys 7 and 9: below the first, at it, between them, at the last, above it.
pub worked_ceilings : map (λ k. ceiling k ((7, 100) ∷ (9, 200) ∷ [])) (0 ∷ 7 ∷ 8 ∷ 9 ∷ 10 ∷ []) ≡
    Some (7, 100) ∷ Some (7, 100) ∷ Some (9, 200) ∷ Some (9, 200) ∷ None ∷ []
unfolding ceiling
worked_ceilings = refl
