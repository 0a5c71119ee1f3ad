-- Prepare (document 01, the last sentence of "Account"). Assumes nothing.
use Rattle.std.specs.Prelude.{ℕ, zero, suc}
use Rattle.layout.specs.Layout.{pages_in_block}
use Rattle.account.specs.declared.Tariff.{Tariff}
use Rattle.account.specs.Serve.{fresh}
use Rattle.node.specs.Node.{Node}
use Rattle.store.specs.Store.{no_node}
use Rattle.store.specs.Prepare.{empty_leaf, prepared_blocks}
use Rattle.store.specs.Reopen.{Cells, cells}
use Rattle.book.specs.Book.{Book}

-- The cells that prepare leaves.
unfoldable pub prepared : ℕ → Tariff → Cells
prepared blocks t = cells pages_in_block (prepared_blocks blocks t)

-- The reference model then: "after a prepare, node 0 alone, an empty leaf in log mode with score 0".
abbrev pub root_alone : ℕ → Node
root_alone zero = empty_leaf
root_alone (suc n) = no_node

abbrev pub first_book : Book
first_book = record { count = 1; table = root_alone; account = λ n. fresh }
