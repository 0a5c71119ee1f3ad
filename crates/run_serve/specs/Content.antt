-- The content of a node as a request finds it, and as it leaves it.
use Rattle.std.specs.Prelude.{ℕ, Option, None, Some}
use Rattle.std.specs.Borrow.{Bor}
use Rattle.node.specs.Node.{Node}
use Rattle.node.specs.declared.NodeValue.{NodeValue}
use Rattle.node.specs.Value.{node_of}
use Rattle.node.specs.Change.{Change}
use Rattle.node.specs.Replay.{Draft, made, redo}
use Rattle.store.specs.Store.{node_in}
use Rattle.store.specs.Serve.{Work, read, edit, rewrite}
use Rattle.flash_allocate.specs.World.{World}
use Rattle.flash_read.specs.Content.{content}

-- What the pages and the buffer spell of node n.
abbrev pub draft_at : ℕ → World → Draft
draft_at n w = content w.pages w.table w.state n

unfoldable pub content_of : ℕ → World → Node
content_of n w = node_in (draft_at n w)

-- The content x with one change more.
unfoldable pub edited_of : Change → Node → Node
edited_of c x = node_in (redo (made x) c)

-- The content that a request leaves of the content x.
abbrev pub content_after : Work → Node → Node
content_after read x = x
content_after (edit c) x = edited_of c x
content_after (rewrite y) x = y

-- The content in hand where a caller has it, else this.
abbrev pub in_hand : Option (Bor NodeValue) → Node → Node
in_hand None x = x
in_hand (Some v) x = node_of v.now
