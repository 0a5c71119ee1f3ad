-- What the search in a node says, to be read alone: "which key is the first at or above the wanted one, and whether it is equal; look up, hang,
-- strip and sweep rest on it" (document 02, P3). Keys need not ascend for it. Assumes nothing.
use Rattle.std.specs.Prelude.{◌≡◌, List, ℕ, ◌≤◌, ◌<◌, length, Result, Ok, Err}
use Rattle.pairs.specs.Pairs.{Pair}
use Rattle.node.specs.Search.{key_at}

-- The first key at or above the wanted one stands at i; where there is none, i is the end.
pub record First (wanted : ℕ) (ps : List Pair) (i : ℕ) : Type 0 where
  pub inside : i ≤ length ps
  pub before : (j : ℕ) → j < i → key_at ps j < wanted
  pub here : i < length ps → wanted ≤ key_at ps i

-- Each answer says so of its place; `Ok`, that the key there is the wanted one, and `Err`, that the key there, if there is one, is above it.
abbrev pub Says : ℕ → List Pair → Result ℕ ℕ → Type 0
Says wanted ps (Ok i) = First wanted ps i × (i < length ps) × (key_at ps i ≡ wanted)
Says wanted ps (Err i) = First wanted ps i × (i < length ps → wanted < key_at ps i)
