-- What the pages say of nodes, one kind of item for both modes: a node, a version and a piece of its content. Assumes nothing.
use Rattle.std.specs.Prelude.{◌&&◌, List, [], ◌∷◌, map, ℕ, max, eqb}
use Rattle.laws.specs.Tests.{choose}
use Rattle.laws.specs.Counts.{cons_if}
use Rattle.node.specs.Change.{Change}
use Rattle.node.specs.Replay.{Piece, step}
use Rattle.node.specs.Replay as Replay
use Rattle.page.specs.Page.{Entry, Page, page, log, whole, checkpoint}

pub record Item : Type 0 where
  pub id : ℕ
  pub version : ℕ
  pub piece : Piece

abbrev pub item : ℕ → ℕ → Piece → Item
item n v x = record { id = n; version = v; piece = x }

-- Log page: an entry is one change of its node, under the version that it names.
abbrev pub entry_item : Entry → Item
entry_item e = item e.id e.version (step e.change)

-- Disk page: the whole node, and "its version is its stamp". A closing page says nothing of a node's content.
abbrev pub items_of : Page → List Item
items_of (page s (log es)) = map entry_item es
items_of (page s (whole n x)) = item n s (Replay.whole x) ∷ []
items_of (page s (checkpoint t scores count)) = []

-- The pieces of one node and one version, in order.
abbrev pub pieces_in : ℕ → ℕ → List Item → List Piece
pieces_in n v [] = []
pieces_in n v (x ∷ xs) = cons_if (eqb x.id n && eqb x.version v) x.piece (pieces_in n v xs)

-- The greatest version that items name of a node, 0 where they name none (versions are from 1).
abbrev pub greatest_in : ℕ → List Item → ℕ
greatest_in n [] = 0
greatest_in n (x ∷ xs) = max (choose (eqb x.id n) x.version 0) (greatest_in n xs)

-- The items of one node and one version.
abbrev pub group : ℕ → ℕ → List Piece → List Item
group n v [] = []
group n v (x ∷ xs) = item n v x ∷ group n v xs

-- The entries that say changes of one node under one version.
abbrev pub entries : ℕ → ℕ → List Change → List Entry
entries n v [] = []
entries n v (c ∷ cs) = record { id = n; version = v; change = c } ∷ entries n v cs
