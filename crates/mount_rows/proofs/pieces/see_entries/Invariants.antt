use Rattle.std.proofs.Common.{◌≡◌, ◌+◌, ◌-◌, ◌*◌}
use Rattle.flash_rows.specs.Row.{rows_of}
use Rattle.mount_rows.specs.Pieces.{seen_run}
use Rattle.mount_rows.proofs.pieces.see_entries.Given as goal

abbrev pub invariant-loop-i : goal.invariant-loop-i
invariant-loop-i l =
    seen_run l.nodes l.page (27 - l.i) l.bytes (7 + 18 * l.i) (rows_of l.table)
    ≡ seen_run l.nodes l.page 27 l.bytes 7 (rows_of l.initial.table)
