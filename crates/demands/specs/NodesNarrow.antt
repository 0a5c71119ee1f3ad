-- Every node that a fitting store says has 32-bit numbers: they are those of entries and node pages that fit, and replaying adds no
-- number. Assumes nothing.
use Rattle.std.specs.Prelude.{Bool, true, false, ◌&&◌, List, [], ◌∷◌, map, ℕ, zero, suc, eqb, ltb, Option, None, Some}
use Rattle.std.proofs.Common.{arith}
use Rattle.laws.specs.Every.{Every, none, both, every_append, every_map, every_weaken, every-cons_if}
use Rattle.laws.specs.Tests.{choose}
use Rattle.pairs.specs.Pairs.{Pair}
use Rattle.node.specs.declared.Shape.{Shape}
use Rattle.node.specs.Node.{node}
use Rattle.node.specs.Replay.{Piece, Draft, unlinked, made, broken, replay}
use Rattle.page.specs.Page.{Entry, Page, page, log, whole, checkpoint}
use Rattle.page.specs.Limits.{EntryFits, PageFits, NodeFits}
use Rattle.node.specs.Narrow.{Narrow}
use Rattle.store.specs.Item.{Item, entry_item, items_of, pieces_in}
use Rattle.store.specs.View.{gather, greatest, pieces}
use Rattle.store.specs.Pool.{Blocks, numbered, page_in, or_else, find, items_at}
use Rattle.store.specs.Store.{Store, view, draft_of, node_in, no_node, node_of}
use Rattle.model.specs.State.{State, book_of}
use Rattle.store_laws.specs.StoreFits.{BlocksFit, StoreFits}
use Rattle.demands.specs.ReplayNarrow.{NarrowPiece, NarrowDraft, replay_narrow}

-- An item of a page.
abbrev NarrowItem : Item → Type 0
NarrowItem i = NarrowPiece i.piece

entries_narrow : {s : ℕ} {es : List Entry} → Every (EntryFits s) es → Every NarrowItem (map entry_item es)
entries_narrow e = every_map entry_item (every_weaken (λ x f. f.change) e)

whole_narrow : (shape : Shape) (ps : List Pair) (l : ℕ) → NodeFits ps l → Narrow (node shape ps l)
whole_narrow shape ps l f = record { pairs = f.numbers; last = f.link }

items_narrow : (p : Page) → PageFits p → Every NarrowItem (items_of p)
items_narrow (page s (log es)) f = entries_narrow f.content.entries
items_narrow (page s (whole n (node shape ps l))) f = both (whole_narrow shape ps l f.content.node) none
items_narrow (page s (checkpoint t scores count)) f = none

-- The page of a number, where there is one.
page_in_narrow : (s : ℕ) (b : List Page) → Every PageFits b → Every NarrowItem (items_at (page_in s b))
page_in_narrow s [] none = none
page_in_narrow s (p ∷ b) (both f e) = go (numbered s p) (page_in_narrow s b e)
  where
    go : (t : Bool) → Every NarrowItem (items_at (page_in s b)) → Every NarrowItem (items_at (choose t (Some p) (page_in s b)))
    go true r = items_narrow p f
    go false r = r

find_narrow : (s : ℕ) (bs : Blocks) → BlocksFit bs → Every NarrowItem (items_at (find s bs))
find_narrow s [] none = none
find_narrow s (b ∷ bs) (both f e) = go (page_in s b) (page_in_narrow s b f) (find_narrow s bs e)
  where
    go : (o : Option Page) → Every NarrowItem (items_at o) → Every NarrowItem (items_at (find s bs)) →
        Every NarrowItem (items_at (or_else o (find s bs)))
    go None p r = r
    go (Some q) p r = p

pieces_in_narrow : (n v : ℕ) (xs : List Item) → Every NarrowItem xs → Every NarrowPiece (pieces_in n v xs)
pieces_in_narrow n v [] none = none
pieces_in_narrow n v (x ∷ xs) (both p e) =
    every-cons_if (eqb x.id n && eqb x.version v) x.piece (pieces_in n v xs) p (pieces_in_narrow n v xs e)

gather_narrow : (f : ℕ → List Piece) (k : ℕ) → ((s : ℕ) → Every NarrowPiece (f s)) → Every NarrowPiece (gather f k)
gather_narrow f zero e = none
gather_narrow f (suc k) e = every_append (gather_narrow f k e) (e (suc k))

pieces_narrow : {st : Store} → StoreFits st → (n : ℕ) → Every NarrowPiece (pieces (view st) n)
unfolding pieces
pieces_narrow {st} h n =
    let v = greatest (view st) n in
    every_append
    (gather_narrow (λ s. pieces_in n v (items_at (find s st.blocks))) st.last
    (λ s. pieces_in_narrow n v (items_at (find s st.blocks)) (find_narrow s st.blocks h.pages)))
    (pieces_in_narrow n v (map entry_item st.buffer) (entries_narrow h.entries))

pub no_node_narrow : Narrow no_node
no_node_narrow = record { pairs = none; last = omega arith }

node_in_narrow : (d : Draft) → NarrowDraft d → Narrow (node_in d)
node_in_narrow (unlinked ps) n = no_node_narrow
node_in_narrow (made x) n = n
node_in_narrow broken n = no_node_narrow

-- EVERY NODE of a fitting store.
pub node_narrow : {st : Store} → StoreFits st → (n : ℕ) → Narrow (node_of st n)
unfolding node_of draft_of
node_narrow {st} h n = node_in_narrow (replay (pieces (view st) n)) (replay_narrow (pieces (view st) n) (pieces_narrow h n))

-- The same of the book that a state says.
pub book_narrow : (s : State) → StoreFits s.run.now → (n : ℕ) → Narrow ((book_of s).table n)
unfolding book_of
book_narrow s h n = go (ltb n s.run.nodes)
  where
    go : (t : Bool) → Narrow (choose t (node_of s.run.now n) no_node)
    go true = node_narrow h n
    go false = no_node_narrow
