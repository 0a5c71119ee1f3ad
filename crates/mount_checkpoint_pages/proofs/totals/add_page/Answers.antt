-- `totals::add_page` meets its contract: a page below the first number adds nothing. Assumes nothing.
use Rattle.std.proofs.Common.{◌≡◌, refl, Bool, true, false, not}
use mir.Val.{bool_byte}
use Rattle.laws.specs.Counts.{bit}
use Rattle.mount_checkpoint_pages.specs.Totals.{plus}
use Rattle.mount_checkpoint_pages.proofs.Laws.{add-below, add-from}
use Rattle.mount_checkpoint_pages.proofs.totals.add_page.Goals as goal

pub returns-then-sequence-since : goal.returns-then-sequence-since
returns-then-sequence-since c = let a = c.args in
    add-below a.since a.newest a.page.now a.t c.sequence.result c.sequence.ensures c.if-sequence-since.true

as-bit : (b : Bool) → bool_byte b ≡ bit b
as-bit true = refl
as-bit false = refl

pub returns : goal.returns
unfolding plus
returns c =
    let a = c.args in
    let s = c.checkpoint_page_of-s in
    let fit = c.fits.result in
    rw (c.from.ensures, as-bit (not fit), c.unwrap_or.ensures)
    (add-from a.since a.newest a.page.now a.t c.sequence.result c.sequence.ensures c.if-sequence-since.false s.result s.ensures fit
    (rw c.is_some.ensures at c.fits.ensures))
