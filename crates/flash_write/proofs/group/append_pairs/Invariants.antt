use Rattle.std.proofs.Common.{◌≡◌}
use Rattle.node.specs.Change.{puts}
use Rattle.node.specs.Splice.{zip}
use Rattle.node.specs.Value.{pairs_in}
use Rattle.flash_rows.specs.Worktable.{table_from}
use Rattle.flash_log.specs.Entry.{logged, append_all}
use Rattle.flash_write.proofs.group.append_pairs.Given as goal

abbrev pub invariant-loop-key : goal.invariant-loop-key
invariant-loop-key l =
    append_all l.id l.version (puts (zip l.key-iterator.a.rest.now l.key-iterator.b.rest.now)) (logged (table_from l.table) l.s) ≡
    append_all l.id l.version (puts (pairs_in l.fn.v)) (logged (table_from l.initial.table) l.initial.s)
