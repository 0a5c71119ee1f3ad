-- A run: the store, how many nodes there are, and every state passed: "after every page written", each copy of a compaction
-- too, and after "every node request". Assumes nothing.
use Rattle.std.specs.Prelude.{Bool, true, false, List, [], ◌∷◌, ◌++◌, map, ℕ, zero, suc, ◌+◌, max, leb, ltb, length, set, take}
use Rattle.laws.specs.Counts.{count, filter}
use Rattle.layout.specs.Layout.{pages_in_block, most_entries, most_log_pages}
use Rattle.node.specs.Node.{Node}
use Rattle.node.specs.Change.{Change, changes_of}
use Rattle.page.specs.Page.{Entry, Content, Page, log, whole}
use Rattle.store.specs.View.{pages}
use Rattle.store.specs.Pool.{block}
use Rattle.store.specs.Live.{live, no_checkpoint}
use Rattle.store.specs.Allocate.{blanks, next_blank, victim}
use Rattle.store.specs.Store.{Store, view}
use Rattle.store.specs.Write.{place, enter, start}

-- A state with the node count of its moment.
pub record Moment : Type 0 where
  pub nodes : ℕ
  pub state : Store

pub record Run : Type 0 where
  pub nodes : ℕ
  pub now : Store
  pub passed : List Moment

abbrev pub moment : ℕ → Store → Moment
moment nodes st = record { nodes = nodes; state = st }

-- The store with the first q pages copied of block `from` to block `to`, which is blank.
abbrev pub copying : (Page → Bool) → Store → ℕ → ℕ → ℕ → Store
copying keep st from to q =
    record {
      blocks = set st.blocks to (take q (filter keep (block st.blocks from)));
      current = st.current;
      buffer = st.buffer;
      last = st.last;
    }

abbrev pub one_to : (ℕ → Store) → ℕ → List Store
one_to f zero = []
one_to f (suc q) = one_to f q ++ (f (suc q) ∷ [])

-- The states after each copy, where a place is found by compaction.
abbrev pub copies_by : Bool → Bool → (Page → Bool) → Store → List Store
copies_by true two keep st = []
copies_by false true keep st = []
copies_by false false keep st =
    let from = victim keep st.blocks in
    one_to (copying keep st from (next_blank st.blocks st.current)) (count keep (block st.blocks from))

abbrev pub copies : (Page → Bool) → ℕ → Store → List Store
copies closing nodes st =
    copies_by (ltb (length (block st.blocks st.current)) pages_in_block) (leb 2 (blanks st.blocks)) (live (view st) closing nodes) st

-- Every state that writing a page passes: one for each copy, then the page's own.
unfoldable pub written : (Page → Bool) → ℕ → Content → List Entry → Store → List Store
written closing nodes c rest st = copies closing nodes st ++ (place closing nodes c rest st ∷ [])

-- A page written in a run.
unfoldable pub write : (Page → Bool) → Content → List Entry → Run → Run
write closing c rest run =
    record {
      nodes = run.nodes;
      now = place closing run.nodes c rest run.now;
      passed = run.passed ++ map (moment run.nodes) (written closing run.nodes c rest run.now);
    }

-- The buffer is written out.
abbrev pub flush_run : Run → Run
flush_run run = write no_checkpoint (log run.now.buffer) [] run

abbrev pub room_by : Bool → Run → Run
room_by true run = run
room_by false run = flush_run run

-- "A buffer of 27, written as one page when the next group does not fit": room for k entries.
unfoldable pub make_room : ℕ → Run → Run
make_room k run = room_by (leb (k + length run.now.buffer) most_entries) run

-- The whole content as a group under a new version. "A page forced out takes its stamp before the new group's version." The node
-- may be the next one, a create: then it exists from here on.
abbrev pub begin : ℕ → List Change → Run → Run
begin n cs run = record { nodes = max run.nodes (suc n); now = start n cs run.now; passed = run.passed }

unfoldable pub write_group : ℕ → Node → Run → Run
write_group n x run = begin n (changes_of x) (make_room (length (changes_of x)) run)

-- One entry, or the whole edited content x.
abbrev pub edit_by : Bool → ℕ → Change → Node → Run → Run
edit_by true n c x run = write_group n x run
edit_by false n c x run = record { nodes = run.nodes; now = enter n c run.now; passed = run.passed }

-- "An edit of a node with three pages, counted after any page the edit forces out, writes the whole edited content instead."
unfoldable pub write_edit : ℕ → Change → Node → Run → Run
write_edit n c x run =
    let room = make_room 1 run in
    edit_by (leb most_log_pages (pages (view room.now) n)) n c x room

-- A node page.
abbrev pub write_node : ℕ → Node → Run → Run
write_node n x run = write no_checkpoint (whole n x) run.now.buffer run
