-- `content::log_outline` meets its contract: from nothing, the pages, then the buffer, and what they made moved to the front. Assumes nothing.
use Rattle.std.proofs.Common.{◌≡◌, List, [], ℕ}
use Rattle.node.specs.Replay.{unlinked}
use Rattle.node_replay.specs.declared.outline.Outline.{Outline}
use Rattle.node_replay.specs.Front.{Arrays}
use Rattle.node_replay.specs.Outline.{empty_outline, RedoneIn, redone_nothing}
use Rattle.flash_read.specs.Content.{log_content}
use Rattle.flash_read.proofs.content.log_outline.Goals as goal
use Rattle.flash_read.proofs.content.log_outline.Goals.{After-empty_outline, Start}

-- Nothing is replayed yet, whatever the lent arrays hold.
nothing : (o : Outline) → o ≡ empty_outline → (ks ps : List ℕ) → Arrays ks ps → RedoneIn o ks ps (unlinked [])
nothing o e ks ps (k, p) = rw e (redone_nothing ks ps k p)

abbrev start : After-empty_outline → Start
start c = (goal.at.After-empty_outline c).Start

begun : (c : After-empty_outline) → RedoneIn c.empty_outline.result (start c).args.keys.now (start c).args.pointers.now (unlinked [])
begun c =
    let a = (start c).args in
    nothing c.empty_outline.result c.empty_outline.ensures a.keys.now a.pointers.now (start c).requires.2

pub redo_pages-written-requires : goal.redo_pages-written-requires
redo_pages-written-requires c = (begun (goal.at.redo_pages-written-requires c).After-empty_outline).held

pub returns : goal.returns
unfolding log_content
returns c =
    let x = c.redo_entries-all.ensures in
    let s = c.settle.ensures in
    rw (s.0, s.1, ← (begun (goal.at.returns c).After-empty_outline).is, ← c.redo_pages-written.ensures.is) (record { is = x.is; held = x.held.held })
