-- `claim::claim_entries` meets its contract. The invariant: the claims of the entries left give those of all. Assumes nothing.
use Rattle.std.proofs.Common.{arith}
use Rattle.flash_rows.specs.Worktable.{table_from}
use Rattle.flash_log.proofs.Laws.{claiming_begin, claiming_more, claiming_done}
use Rattle.flash_log.proofs.claim.claim_entries.Goals as goal

pub loop-k-init : goal.loop-k-init
loop-k-init c = let a = c.args in
    claiming_begin a.nodes a.page a.n (table_from a.table.now)

pub loop-k-preserved : goal.loop-k-preserved
loop-k-preserved c = let l = c.loop-k in
    let a = c.args in
    claiming_more a.nodes a.page a.n l.k (omega arith) (table_from a.table.now) (table_from l.table) _ l.invariant
    c.claim_entry.ensures

pub returns : goal.returns
returns c = let l = c.loop-k in
    let a = c.args in
    claiming_done a.nodes a.page a.n l.k (omega arith) (table_from a.table.now) (table_from l.table) l.invariant
