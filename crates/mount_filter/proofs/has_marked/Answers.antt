-- `has_marked` meets its contract: a number that its mark rules out is not there, and any other is looked for. Assumes nothing.
use Rattle.std.proofs.Common.{◌≡◌, true, sym, ◌∙◌, ◌+◌, ◌*◌, get_or}
use Rattle.mount_sequences.specs.Row.{row}
use Rattle.mount_sequences.specs.Find.{has-none}
use Rattle.mount_filter.specs.Marks.{excludes, mark_of}
use Rattle.mount_filter.proofs.has_marked.Goals as goal

pub returns-else-not-excludes : goal.returns-else-not-excludes
returns-else-not-excludes c =
    let a = c.args in
    let out : excludes (get_or a.table.now (512 * a.blocks + mark_of a.blocks a.v) 0) a.v ≡ true =
    rw c.mark_of.ensures.0 at (sym c.excludes.ensures ∙ c.if-not-excludes.false) in
    rw (c.if-not-excludes.false, has-none a.v (row a.n 0 a.table.now) (c.requires.1.none a.v out))
