-- `page_write::frame::lay_sequence` meets its contract. The number laid behind its tag and length is field 10. Assumes nothing.
use mathlib.Core.Path.{◌∙◌}
use Rattle.page_write.specs.Laid.{ten_laid}
use Rattle.page_write.proofs.frame.lay_sequence.Goals as goal

pub returns : goal.returns
returns c =
    let a = c.args in
    c.write32.ensures ∙ rw c.lay_head.ensures (ten_laid a.p.now a.sequence)
