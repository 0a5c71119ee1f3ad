-- What holds of a store between its writes: few nodes and checkpoint pages, the block rules, and a view that fits and is lean. Assumes nothing.
use Rattle.std.specs.Prelude.{Bool, ℕ, ◌≤◌}
use Rattle.laws.specs.Counts.{tally}
use Rattle.layout.specs.Layout.{pages_in_block, node_limit, fewest_blocks}
use Rattle.page.specs.Page.{Page}
use Rattle.store.specs.Store.{Store, view}
use Rattle.store_laws.specs.Steps.{Fit}
use Rattle.store_laws.specs.Changes.{Lean}
use Rattle.store_laws.specs.BlockRules.{BlockRules}

-- 620 nodes take twelve checkpoint pages.
abbrev pub most_checkpoint_pages : ℕ
most_checkpoint_pages = 12

-- THE INVARIANT of a store with B blocks and N nodes, while `closing` tells the checkpoint being written.
pub record Invariant (B N : ℕ) (closing : Page → Bool) (st : Store) : Type 0 where
  pub blocks : fewest_blocks ≤ B
  pub nodes : N ≤ node_limit B
  pub checkpoint_pages : tally closing st.blocks ≤ most_checkpoint_pages
  pub rules : BlockRules pages_in_block B st.blocks st.current st.last
  pub fit : Fit (view st)
  pub lean : Lean N (view st)
