use Rattle.std.proofs.Common.{◌≡◌, ◌+◌, ◌-◌, ◌*◌}
use Rattle.mount_sequences.specs.Row.{row}
use Rattle.mount_sequences.specs.Find.{has}
use Rattle.mount_pages.specs.Versions.{apart_from}
use Rattle.mount_pages.proofs.versions.is_new_version.Given as goal

abbrev pub invariant-loop-i : goal.invariant-loop-i
invariant-loop-i l =
    apart_from (has (row l.n 0 l.table)) (27 - l.i) l.page (7 + 18 * l.i) ≡ apart_from (has (row l.n 0 l.table)) 27 l.page 7
