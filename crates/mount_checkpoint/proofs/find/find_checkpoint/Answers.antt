-- `find::find_checkpoint` meets its contract: each question is the definition's, in its order. Assumes nothing.
use Rattle.flash_blocks.specs.Pages.{pages_of}
use Rattle.mount_checkpoint.proofs.Laws.{found_bare, found-misfit, found_short, found-complete, found_uncovered}
use Rattle.mount_checkpoint.proofs.find.find_checkpoint.Goals as goal

pub returns-then-e-lt1 : goal.returns-then-e-lt1
returns-then-e-lt1 c = let a = c.args in
    let e = c.extent_of-e in
    found_bare (pages_of a.pool.now) a.blocks a.scratch.now e.result e.ensures.is c.if-e-lt1.true

pub returns-then-t-ne0 : goal.returns-then-t-ne0
returns-then-t-ne0 c =
    let a = c.args in
    let e = c.extent_of-e in
    let t = c.sum_pages-t in
    found-misfit (pages_of a.pool.now) a.blocks a.scratch.now e.result e.ensures.is c.if-e-lt1.false
    t.result t.ensures.is c.if-t-ne0.true

pub returns-then-t-nodes : goal.returns-then-t-nodes
returns-then-t-nodes c =
    let a = c.args in
    let e = c.extent_of-e in
    let t = c.sum_pages-t in
    found_short (pages_of a.pool.now) a.blocks a.scratch.now e.result e.ensures.is
    c.if-e-lt1.false t.result t.ensures.is c.if-t-ne0.false
    c.if-t-nodes.true

pub returns-then-not-covers : goal.returns-then-not-covers
returns-then-not-covers c =
    let a = c.args in
    let e = c.extent_of-e in
    let t = c.sum_pages-t in
    let v = c.covers in
    found_uncovered (pages_of a.pool.now) a.blocks a.scratch.now e.result e.ensures.is c.if-e-lt1.false t.result t.ensures.is
    c.if-t-ne0.false c.if-t-nodes.false v.new.marks v.result v.ensures c.if-not-covers.true

pub returns : goal.returns
returns c =
    let a = c.args in
    let e = c.extent_of-e in
    let t = c.sum_pages-t in
    let v = c.covers in
    found-complete (pages_of a.pool.now) a.blocks a.scratch.now e.result e.ensures.is c.if-e-lt1.false t.result t.ensures.is
    c.if-t-ne0.false c.if-t-nodes.false v.new.marks v.result v.ensures c.if-not-covers.false
    c.tariff_at.result c.tariff_at.ensures
