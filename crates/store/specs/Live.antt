-- Which pages are live. Assumes nothing.
use Rattle.std.specs.Prelude.{Bool, true, false, not, ◌&&◌, ◌||◌, ℕ, zero, suc}
use Rattle.laws.specs.Counts.{empty}
use Rattle.page.specs.Page.{Page, page, log, whole, checkpoint}
use Rattle.store.specs.Item.{items_of, pieces_in}
use Rattle.store.specs.View.{View, greatest}
use Rattle.store.specs.Pool.{above}

-- A page "is the disk page of some node's greatest version, or has any entry of it".
unfoldable pub carries : View → ℕ → Page → Bool
carries w n p = not (empty (pieces_in n (greatest w n) (items_of p)))

-- A page is live if it carries one of the nodes below the count, "or is in the closing set being written", which the test
-- `closing` tells. "Entries and disk pages of ids at or above the node count mean nothing."
abbrev pub live : View → (Page → Bool) → ℕ → Page → Bool
live w closing zero p = closing p
live w closing (suc n) p = carries w n p || live w closing n p

-- No checkpoint is being written.
abbrev pub no_checkpoint : Page → Bool
no_checkpoint p = false

abbrev pub is_checkpoint : Page → Bool
is_checkpoint (page s (log es)) = false
is_checkpoint (page s (whole n x)) = false
is_checkpoint (page s (checkpoint t scores count)) = true

-- The checkpoint being written: its pages have the numbers above the last one taken before it. Older checkpoints are dead.
unfoldable pub checkpoint_since : ℕ → Page → Bool
checkpoint_since s p = is_checkpoint p && above s p
