-- The laws of an ordered map. By them a reader knows lookup, insert, delete, range and ceiling without reading their text: whatever else obeys
-- them does the same to ascending pairs. Assumes nothing.
use Rattle.std.specs.Prelude.{◌≡◌, Bool, ◌&&◌, ℕ, suc, ◌≤◌, ◌<◌, leb, take, Option, None, Some}
use mathlib.Core.List.{List, [], ◌∷◌}
use Rattle.laws.specs.Counts.{filter}
use Rattle.pairs.specs.Pairs.{Pair, Within}
use Rattle.pairs.specs.Ceiling.{CeilingIs}

-- A key from low to high, both included.
abbrev pub inside : ℕ → ℕ → Pair → Bool
inside low high p = leb low p.0 && leb p.0 high

-- THE LAWS, of any five functions on pairs.
pub record OrderedMap (lookup : ℕ → List Pair → Option ℕ) (insert : ℕ → ℕ → List Pair → List Pair) (delete : ℕ → List Pair → List Pair)
    (range : ℕ → ℕ → ℕ → List Pair → List Pair) (ceiling : ℕ → List Pair → Option Pair) : Type 0 where
  -- "No such route": the map without a pair has no key.
  pub empty : (k : ℕ) → lookup k [] ≡ None
  -- "Pairs ascending": a key below all others comes first.
  pub first : (k v high : ℕ) (ps : List Pair) → Within (suc k) high ps → insert k v ps ≡ (k, v) ∷ ps
  -- "Hang: route, word", then "look up": the word hung last, whether it is new or there was an old one.
  pub inserted : (k v : ℕ) (ps : List Pair) → lookup k (insert k v ps) ≡ Some v
  -- .. and every other route as it was.
  pub inserted_other : (j k v : ℕ) (ps : List Pair) → (j ≡ k → ⊥) → lookup j (insert k v ps) ≡ lookup j ps
  -- "Strip: route", then "look up": no such route.
  pub deleted : (k low high : ℕ) (ps : List Pair) → Within low high ps → lookup k (delete k ps) ≡ None
  -- .. and every other route as it was.
  pub deleted_other : (j k : ℕ) (ps : List Pair) → (j ≡ k → ⊥) → lookup j (delete k ps) ≡ lookup j ps
  -- "Sweep: route and word pairs, ascending, from low to high inclusive, the first `most` of them."
  pub ranged : (low high most bottom top : ℕ) (ps : List Pair) → Within bottom top ps →
      range low high most ps ≡ take most (filter (inside low high) ps)
  -- "That route or the nearest above", and none "if none is at or above".
  pub nearest : (k low high : ℕ) (ps : List Pair) → Within low high ps → CeilingIs lookup k ps (ceiling k ps)
  -- "Keys ascending and in bounds", after a hang within the bounds and after a strip.
  pub insert_keeps : (k v low high : ℕ) (ps : List Pair) → low ≤ k → k < high → Within low high ps → Within low high (insert k v ps)
  pub delete_keeps : (k low high : ℕ) (ps : List Pair) → Within low high ps → Within low high (delete k ps)
