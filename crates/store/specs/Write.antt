-- What is written to the store, one thing at a time: a page in its place, the buffer as a page, one entry, a whole content under
-- a new version, a node page. A checkpoint page is placed as it is. Assumes nothing.
use Rattle.std.specs.Prelude.{Bool, List, [], ◌∷◌, ◌++◌, ℕ, suc}
use Rattle.layout.specs.Layout.{pages_in_block}
use Rattle.node.specs.Node.{Node}
use Rattle.node.specs.Change.{Change}
use Rattle.page.specs.Page.{Entry, Content, Page, page, log, whole}
use Rattle.store.specs.Item.{entries}
use Rattle.store.specs.View.{greatest}
use Rattle.store.specs.Pool.{add_to}
use Rattle.store.specs.Live.{live}
use Rattle.store.specs.Allocate.{spot}
use Rattle.store.specs.Store.{Store, view}

-- The store with a place found for the next page, `nodes` being the node count of the moment and `closing` the test for the
-- checkpoint being written.
unfoldable pub found : (Page → Bool) → ℕ → Store → Store
found closing nodes st =
    let at = spot pages_in_block (live (view st) closing nodes) st.blocks st.current in
    record { blocks = at.blocks; current = at.current; buffer = st.buffer; last = st.last }

-- "Each new page .. takes the next" stamp: the page of the next number with this content.
abbrev pub next : Store → Content → Page
next st c = page (suc st.last) c

-- A page is written, and the buffer is `rest` afterwards.
unfoldable pub place : (Page → Bool) → ℕ → Content → List Entry → Store → Store
place closing nodes c rest st =
    let to = found closing nodes st in
    record { blocks = add_to to.blocks to.current (next st c); current = to.current; buffer = rest; last = suc st.last }

-- The buffer is "written as one page".
unfoldable pub flush : (Page → Bool) → ℕ → Store → Store
flush closing nodes st = place closing nodes (log st.buffer) [] st

-- "An edit is one entry", under the node's version.
unfoldable pub enter : ℕ → Change → Store → Store
enter n c st =
    record { blocks = st.blocks; current = st.current; buffer = st.buffer ++ entries n (greatest (view st) n) (c ∷ []); last = st.last }

-- "The whole content: pairs ascending, link last, under a new version": a fresh start of a node in log mode takes the next stamp.
unfoldable pub start : ℕ → List Change → Store → Store
start n cs st =
    record { blocks = st.blocks; current = st.current; buffer = st.buffer ++ entries n (suc st.last) cs; last = suc st.last }

-- "In disk mode every change, and a switch to disk, writes a new disk page."
unfoldable pub node_page : (Page → Bool) → ℕ → ℕ → Node → Store → Store
node_page closing nodes n x st = place closing nodes (whole n x) st.buffer st
