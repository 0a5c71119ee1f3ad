use Rattle.flash_rows.specs.Worktable.{table_from}
use Rattle.flash_log.proofs.Laws.{Claiming}
use Rattle.flash_log.proofs.claim.claim_entries.Given as goal

abbrev pub invariant-loop-k : goal.invariant-loop-k
invariant-loop-k l = Claiming l.nodes l.page l.n l.k (table_from l.initial.table) (table_from l.table)
