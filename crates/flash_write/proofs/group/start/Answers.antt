-- `group::start` meets its contract: the fresh row stored, the entries of the content in the buffer. Assumes nothing.
use mathlib.Core.Path.{refl, ap, ◌∙◌}
use Rattle.node.specs.Change.{changes_of}
use Rattle.node.specs.Value.{node_of}
use Rattle.flash_log.specs.Entry.{append_all}
use Rattle.flash_allocate.specs.State.{with_sequence}
use Rattle.flash_write.proofs.group.start.Goals as goal

pub returns : goal.returns
unfolding with_sequence
returns c =
    let a = c.args in
    let row = c.fresh.ensures in
    c.append_node.ensures ∙
    ap (append_all a.id a.version (changes_of (node_of a.v)))
    (rw (c.put_row.ensures, row) refl)
