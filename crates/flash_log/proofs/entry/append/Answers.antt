-- `entry::append` meets its contract: the entry laid behind the others, where there is room. Assumes nothing.
use Rattle.node.specs.Drafts.{change_of}
use Rattle.flash_rows.specs.Worktable.{table_from}
use Rattle.std.proofs.Common.{refl}
use Rattle.flash_allocate.specs.State.{with_entries}
use Rattle.flash_log.proofs.Laws.{append_in, append-full}
use Rattle.flash_log.proofs.entry.append.Goals as goal

pub returns-then-state-ge-MOST_ENTRIES : goal.returns-then-state-ge-MOST_ENTRIES
returns-then-state-ge-MOST_ENTRIES c =
    let a = c.args in
    append-full a.id a.version (change_of a.change) (table_from a.table.now) a.state c.if-state-ge-MOST_ENTRIES.true

pub returns : goal.returns
unfolding with_entries
returns c =
    let a = c.args in
    append_in a.id a.version (change_of a.change) (table_from a.table.now) (table_from c.lay_change.new.table) a.state _
    c.if-state-ge-MOST_ENTRIES.false c.lay_change.ensures refl
