-- `collect::collect` meets its contract. The invariant: the numbers in the row, and those of the pages left, are those of all pages. Assumes nothing.
use Rattle.std.proofs.Common.{◌≡◌, sym, ◌∙◌, arith}
use Rattle.flash_blocks.specs.Pages.{pages_of}
use Rattle.mount_sequences.specs.Row.{row}
use Rattle.mount_pages.specs.Seen.{Numbered, seen_of, view-seen}
use Rattle.mount_pages.specs.Collect.{collect-begin, collect-blank, collect-numbered, collect_bad, collect-done}
use Rattle.mount_pages.proofs.collect.collect.Goals as goal
use Rattle.mount_pages.proofs.collect.collect.Goals.{in-Log, in-Log-2, in-Log-3}

pub loop-page-init : goal.loop-page-init
unfolding row
loop-page-init c = (omega arith, collect-begin (pages_of c.args.pool.now) c.args.pages)

pub returns-in-Bad : goal.returns-in-Bad
returns-in-Bad c =
    let ps = pages_of c.args.pool.now in
    let l = c.loop-page in
    let seen = view-seen _ _ c.in-Bad.ensures in
    record {
      few = tt;
      is = sym l.invariant.1 ∙ collect_bad ps c.args.pages l.page (omega arith) (row l.count 0 l.table) (rw c.page_part.ensures.0 at seen);
    }

pub loop-page-preserved-in-Blank : goal.loop-page-preserved-in-Blank
loop-page-preserved-in-Blank c =
    let l = c.loop-page in
    let seen = rw c.page_part.ensures.0 at (view-seen _ _ c.in-Blank.ensures) in
    (omega arith, collect-blank (pages_of c.args.pool.now) c.args.pages l.page (omega arith) (row l.count 0 l.table) seen ∙ l.invariant.1)

pub loop-page-preserved : goal.loop-page-preserved
loop-page-preserved c =
    let l = c.loop-page in
    let s = c.match-view_page.sequence in
    let seen : seen_of c.page_part.result.now ≡ Numbered s =
    elim c.match-view_page.branch [
      | in-Log w ↦ rw w.sequence-is (view-seen _ _ w.in-Log.ensures)
      | in-Log-2 w ↦ rw w.sequence-is (view-seen _ _ w.in-Log.ensures)
      | in-Log-3 w ↦ rw w.sequence-is (view-seen _ _ w.in-Log.ensures)
    ] in (
      omega arith,
      rw c.add_number.ensures
          (collect-numbered (pages_of c.args.pool.now) c.args.pages l.page (omega arith) (row l.count 0 l.table) s
          (rw c.page_part.ensures.0 at seen) ∙ l.invariant.1),
    )

pub returns : goal.returns
returns c =
    let ps = pages_of c.args.pool.now in
    let l = c.loop-page in
    record {
      few = omega arith;
      is = sym l.invariant.1 ∙ collect-done ps c.args.pages l.page (row l.count 0 l.table) (omega arith);
    }
