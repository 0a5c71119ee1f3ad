-- What the page reader answers, read off the page that the bytes spell. Assumes nothing.
use Rattle.std.specs.Prelude.{List, ℕ, length}
use Rattle.node.specs.Node.{shape_of, pairs_of}
use Rattle.page.specs.Page.{Content, log, whole, checkpoint, Page, page}
use Rattle.page.specs.Decode.{Decoded, blank, written, bad, decode}
use Rattle.page.specs.Limits.{given}
use Rattle.page_read.specs.declared.view.PageView.{PageView}
use Rattle.page_read.specs.declared.view.PageView.TheVariants.{Blank, Log, NodePage, Checkpoint, Bad}

-- Sequence number and counts of each kind of content.
abbrev pub content_view : ℕ → Content → PageView
content_view s (log es) = Log s (length es)
content_view s (whole id n) = NodePage s id (shape_of n) (length (pairs_of n))
content_view s (checkpoint t ss c) = Checkpoint s (given t) (length ss) c

abbrev pub page_view : Page → PageView
page_view (page s c) = content_view s c

abbrev pub view : Decoded → PageView
view blank = Blank
view (written p) = page_view p
view bad = Bad

-- The view of a page's bytes.
unfoldable pub view_of : List ℕ → PageView
view_of b = view (decode b)
