-- The plain ordered map: pairs of a key and a value, by ascending key. It is what demand 2 compares the book with, and what a
-- tree node holds (document 01: "route, word"; in a branch the value is a pointer). Assumes nothing.
use Rattle.std.specs.Prelude.{Bool, true, false, ◌||◌, List, [], ◌∷◌, ℕ, zero, suc, ◌≤◌, ◌<◌, eqb, leb, ltb, Option, None, Some}

abbrev pub Pair : Type 0
Pair = ℕ × ℕ

-- the value at a key
unfoldable pub lookup : ℕ → List Pair → Option ℕ
lookup k [] = None
lookup k (p ∷ ps) = elim (eqb k p.0) [ true ↦ Some p.1 | false ↦ lookup k ps ]

-- the map with a value at a key, added or replaced
unfoldable pub insert : ℕ → ℕ → List Pair → List Pair
insert k v [] = (k, v) ∷ []
insert k v (p ∷ ps) =
    elim (ltb k p.0) [
      | true ↦ (k, v) ∷ p ∷ ps
      | false ↦ elim (eqb k p.0) [ true ↦ (k, v) ∷ ps | false ↦ p ∷ insert k v ps ]
    ]

-- the map without a key
unfoldable pub delete : ℕ → List Pair → List Pair
delete k [] = []
delete k (p ∷ ps) = elim (eqb k p.0) [ true ↦ ps | false ↦ p ∷ delete k ps ]

-- the first `most` pairs with a key from low to high, both included (document 01, command 04)
unfoldable pub range : ℕ → ℕ → ℕ → List Pair → List Pair
range low high zero ps = []
range low high (suc most) [] = []
range low high (suc most) (p ∷ ps) =
    elim (ltb p.0 low) [
      | true ↦ range low high (suc most) ps
      | false ↦ elim (ltb high p.0) [ true ↦ [] | false ↦ p ∷ range low high most ps ]
    ]

-- the first pair with a key at or above this one, if there is any (document 02, command 07: "that route or the nearest above")
unfoldable pub ceiling : ℕ → List Pair → Option Pair
ceiling k [] = None
ceiling k (p ∷ ps) = elim (leb k p.0) [ true ↦ Some p | false ↦ ceiling k ps ]

-- the first of some pairs, if there is any
abbrev pub first : List Pair → Option Pair
first [] = None
first (p ∷ ps) = Some p

-- whether a key is above the high one
unfoldable pub has_above : ℕ → List Pair → Bool
has_above high [] = false
has_above high (p ∷ ps) = ltb high p.0 || has_above high ps

-- keys ascending, from low up to below high
unfoldable pub Within : ℕ → ℕ → List Pair → Type 0
Within low high [] = Unit {0}
Within low high (p ∷ ps) = (low ≤ p.0) × (p.0 < high) × Within (suc p.0) high ps
