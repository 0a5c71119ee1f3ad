-- `page_write::log_page::lay_entry` meets its contract. Five pieces laid one behind another are the entry's bytes. Assumes
-- nothing.
use mathlib.Core.Path.{◌∙◌}
use Rattle.page_write.specs.Parts.{entry-laid}
use Rattle.page_write.proofs.log_page.lay_entry.Goals as goal

pub returns : goal.returns
returns c =
    let a = c.args in
    c.write32-3.ensures ∙
    rw (c.write32-2.ensures, c.lay_byte.ensures, c.write32.ensures, c.write16.ensures)
    (entry-laid a.buffer.now a.at a.id a.version a.kind a.key a.pointer c.requires.0)
