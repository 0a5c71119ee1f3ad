-- The store that prepare leaves (document 01, "Account", its last paragraph). Assumes nothing.
use Rattle.std.specs.Prelude.{List, [], ◌∷◌, ℕ, ◌-◌, replicate, Some}
use Rattle.account.specs.declared.Tariff.{Tariff}
use Rattle.layout.specs.Layout.{no_leaf}
use Rattle.node.specs.declared.Shape.TheVariants.{Leaf}
use Rattle.node.specs.Node.{Node, node}
use Rattle.node.specs.Change.{link}
use Rattle.page.specs.Page.{Page, page, log, checkpoint}
use Rattle.store.specs.Pool.{Blocks}
use Rattle.store.specs.Store.{Store}
use Rattle.store.specs.Run.{Run}

abbrev pub empty_leaf : Node
empty_leaf = node Leaf [] no_leaf

-- "Node 0 as an empty leaf (version 1, page stamp 2), a closing page (stamp 3)."
abbrev pub first_pages : Tariff → List Page
first_pages t =
    page 2 (log (record { id = 0; version = 1; change = link Leaf no_leaf } ∷ [])) ∷
    page 3 (checkpoint (Some t) (record { id = 0; score = 0 } ∷ []) (Some 1)) ∷
    []

-- "Prepare erases all, then writes from the first page of block 0."
abbrev pub prepared_blocks : ℕ → Tariff → Blocks
prepared_blocks B t = first_pages t ∷ replicate (B - 1) []

unfoldable pub prepared : ℕ → Tariff → Store
prepared B t = record { blocks = prepared_blocks B t; current = 0; buffer = []; last = 3 }

unfoldable pub prepared_run : ℕ → Tariff → Run
prepared_run B t = record { nodes = 1; now = prepared B t; passed = [] }
