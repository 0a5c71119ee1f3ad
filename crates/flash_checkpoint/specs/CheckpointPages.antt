-- The checkpoint (document 01: closing set): "the first begins with field 13, the tariff; then fields 14, one for every node; the last ends with
-- field 15, the node count. 1 to 50 fields 14 on the first page, 1 to 54 on others; a page is filled before the next." A checkpoint page is what one
-- page holds.
use Rattle.std.specs.Prelude.{◌≡◌, List, ℕ, ◌+◌, ◌-◌, ◌*◌, ◌/◌, ◌≤◌, ◌<◌, eqb, leb, set}
use Rattle.laws.specs.Tests.{choose}
use Rattle.laws.specs.Loops.{steps}
use Rattle.layout.specs.Layout.{first_scores, other_scores, scores_less, node_limit}
use Rattle.account.specs.declared.Mode.TheVariants.{Disk}
use Rattle.account.specs.declared.Tariff.{Tariff}
use Rattle.flash_rows.specs.Row.{no_row}
use Rattle.flash_rows.specs.Step.{fresh, noted}
use Rattle.flash_rows.specs.declared.Row.{Row}
use Rattle.flash_rows.specs.Worktable.{with_row}
use Rattle.page.specs.Page.{page}
use Rattle.page.specs.Page as p
use Rattle.page.specs.Image.{image}
use Rattle.page.specs.Decode.{most_scores}
use Rattle.std.specs.Bool.{then_some}
use Rattle.flash_allocate.specs.World.{World, world, spot, used, Leaves, Left, Stays, Unsaid, OneMoreAtMost}
use Rattle.flash_allocate.specs.Allocate.{allocate}
use Rattle.flash_allocate.specs.declared.state.State.{State}
use Rattle.flash_log.specs.Flush.{if_room, flush}
use Rattle.flash_checkpoint.specs.Scores.{scores_of}
use Rattle.flash_allocate.specs.State.{next_sequence, page_counted}

-- The node whose score is the first of checkpoint page k: 0, 50, 104, ..
abbrev pub scores_before : ℕ → ℕ
scores_before k = other_scores * k - scores_less

-- How many scores stand on checkpoint page k: up to the first of the next checkpoint page, or up to the last node.
unfoldable pub scores_of_page : ℕ → ℕ → ℕ
scores_of_page k nodes =
    choose (leb (other_scores * k + first_scores) nodes) (other_scores * k + first_scores - scores_before k) (nodes - scores_before k)

-- What is known of the size of checkpoint page k: its scores are those of nodes there are, and no more than its page takes.
pub record ScoresOfPage (k nodes r : ℕ) : Type 0 where
  pub is : r ≡ scores_of_page k nodes
  pub inside : scores_before k + r ≤ nodes
  pub few : r ≤ other_scores
  pub first : r ≤ most_scores (eqb k 0)

-- How many checkpoint pages hold the scores of so many nodes: 1 up to 50 nodes, then one for every 54.
abbrev pub page_count : ℕ → ℕ
page_count nodes = (nodes + (scores_less + (other_scores - 1))) / other_scores

-- The bytes of checkpoint page k: the tariff on the first, the node count on the last.
unfoldable pub checkpoint_image : ℕ → Tariff → ℕ → ℕ → List Row → List ℕ
checkpoint_image number tariff k nodes rows =
    image
    (page number
    (p.checkpoint (then_some (eqb k 0) tariff) (scores_of rows (scores_before k) (scores_of_page k nodes)) (then_some (eqb (k + 1) (page_count nodes)) nodes)))

-- The row of a checkpoint page being written: it names the page, which is live by that.
unfoldable pub checkpoint_row : ℕ → ℕ → Row
checkpoint_row number at = noted at (fresh number Disk no_row)

-- Checkpoint page k as the page written next.
unfoldable pub write_checkpoint_page : Tariff → ℕ → World → World
write_checkpoint_page tariff k w =
    world
    (set w.pages (spot w.state) (checkpoint_image (next_sequence w.state.last) tariff k w.state.nodes w.table.rows))
    (with_row (used w.state) (checkpoint_row (next_sequence w.state.last) (spot w.state)) w.table)
    (page_counted (next_sequence w.state.last) w.state)

-- A place for checkpoint page k, then the checkpoint page.
unfoldable pub checkpoint_page : Tariff → ℕ → World → World
checkpoint_page tariff k w = if_room (write_checkpoint_page tariff k) (allocate w)

-- All checkpoint pages, in order.
unfoldable pub checkpoint_pages : Tariff → World → World
checkpoint_pages tariff w = steps (checkpoint_page tariff) (page_count w.state.nodes) 0 w

-- Entries are "written .. at closing if not empty".
unfoldable pub drain : World → World
drain w = choose (eqb w.state.entries 0) w (flush w)

-- "An accepted batch, the empty one too, writes a closing set."
unfoldable pub checkpoint : Tariff → World → World
checkpoint tariff w = checkpoint_pages tariff (drain w)

-- What is known when checkpoint page k is written: there are no more nodes than the limit, the checkpoint page is one of those needed, and no more
-- than k were written.
pub record Closing (k : ℕ) (s : State) : Type 0 where
  pub limit : s.nodes ≤ node_limit s.blocks
  pub needed : k < page_count s.nodes
  pub before : s.checkpoint ≤ k

-- A checkpoint's result: the world asked for, still good, with the same blocks and nodes.
abbrev pub Ended : Leaves
Ended = Left Stays Unsaid

-- A checkpoint page's result: the world asked for, still good, with one checkpoint page more at most.
abbrev pub CheckpointPageWritten : Leaves
CheckpointPageWritten = Left Stays OneMoreAtMost
