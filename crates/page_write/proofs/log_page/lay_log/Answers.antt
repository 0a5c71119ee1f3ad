-- `page_write::log_page::lay_log` meets its contract. Field 10, the fields 12 and the sums laid one behind another. Assumes
-- nothing.
use mathlib.Core.Path.{◌≡◌, ◌∙◌}
use Prim.Native.Nat.{◌+◌, ◌*◌}
use native.Mathlib.Omega.{arith}
use Rattle.laws.specs.Lay.{lay}
use Rattle.page.specs.Image.{fields}
use Rattle.page_write.specs.Chunks.{chunks}
use Rattle.page_write.specs.Laid.{numbered-laid, summed-laid}
use Rattle.page_write.specs.Pages.{log_body}
use Rattle.page_write.specs.Parts.{length-log_body}
use Rattle.page_write.proofs.log_page.lay_log.Goals as goal

pub returns : goal.returns
unfolding log_body
returns c = let a = c.args in
    let body = log_body a.sequence a.n a.buffer.now in
    let e : c.lay_run.new.p ≡ lay a.p.now 0 body =
    c.lay_run.ensures ∙
    rw c.lay_sequence.ensures
    (numbered-laid a.p.now a.sequence (fields 0x12 (chunks 15 a.n a.buffer.now 0))) in
    c.lay_sums.ensures ∙
    rw e (summed-laid a.p.now body (7 + 18 * a.n) (length-log_body a.sequence a.n a.buffer.now (omega arith)))
