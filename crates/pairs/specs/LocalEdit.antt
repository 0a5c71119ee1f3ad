-- Put and delete as one notion, an edit at one key: it sees only the part of the pairs that the key falls into. Assumes nothing.
use Rattle.std.specs.Prelude.{◌≡◌, List, ◌++◌, ℕ, suc, ◌≤◌, ◌<◌, length}
use Rattle.pairs.specs.Pairs.{Pair, Within}

-- An edit of the pairs at one key: it sees the key's part alone, keeps bounds, and adds at most one pair.
pub record LocalEdit (k : ℕ) (f : List Pair → List Pair) : Type 0 where
  pub left : (high top : ℕ) (ps qs : List Pair) → k < high → Within high top qs → f (ps ++ qs) ≡ f ps ++ qs
  pub right : (bottom low : ℕ) (ps qs : List Pair) → low ≤ k → Within bottom low ps → f (ps ++ qs) ≡ ps ++ f qs
  pub keeps : (low high : ℕ) (ps : List Pair) → low ≤ k → k < high → Within low high ps → Within low high (f ps)
  pub grows : (ps : List Pair) → length (f ps) ≤ suc (length ps)
