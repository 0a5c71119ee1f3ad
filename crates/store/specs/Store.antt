-- The store: blocks, current block, log buffer, last sequence number; and what it says of each node. Assumes nothing.
use Rattle.std.specs.Prelude.{List, [], map, ℕ, Option, None, Some}
use Rattle.account.specs.declared.Mode.{Mode}
use Rattle.account.specs.declared.Mode.TheVariants.{Log, Disk}
use Rattle.node.specs.declared.Shape.TheVariants.{Branch}
use Rattle.node.specs.Node.{Node, node}
use Rattle.node.specs.Replay.{Draft, unlinked, made, broken, replay}
use Rattle.page.specs.Page.{Entry, Page, page, log, whole, checkpoint}
use Rattle.store.specs.Item.{entry_item}
use Rattle.store.specs.View.{View, greatest, pieces}
use Rattle.store.specs.Pool.{Blocks, find, items_at}

-- The current block is "that of the newest written page"; the buffer holds entries that are on no page yet; `last` is the
-- stamp taken last, by a page or by a version.
pub record Store : Type 0 where
  pub blocks : Blocks
  pub current : ℕ
  pub buffer : List Entry
  pub last : ℕ

-- The store without its places.
abbrev pub seen : Blocks → List Entry → ℕ → View
seen bs buffer last = record { at = λ s. items_at (find s bs); buffer = map entry_item buffer; last = last }

abbrev pub view : Store → View
view st = seen st.blocks st.buffer st.last

-- A node's content, replayed piece by piece.
unfoldable pub draft_of : Store → ℕ → Draft
draft_of st n = replay (pieces (view st) n)

-- What stands for a node where there is none: a branch without a key, which no sound tree has.
abbrev pub no_node : Node
no_node = node Branch [] 0

abbrev pub node_in : Draft → Node
node_in (unlinked ps) = no_node
node_in (made x) = x
node_in broken = no_node

unfoldable pub node_of : Store → ℕ → Node
node_of st n = node_in (draft_of st n)

-- "Each node's mode (disk if its greatest version, buffer included, is a disk page, else log)": the page that has the greatest
-- version for its stamp is a disk page.
abbrev pub mode_at : Option Page → Mode
mode_at None = Log
mode_at (Some (page s (log es))) = Log
mode_at (Some (page s (whole n x))) = Disk
mode_at (Some (page s (checkpoint t scores count))) = Log

unfoldable pub mode_of : Store → ℕ → Mode
mode_of st n = mode_at (find (greatest (view st) n) st.blocks)
