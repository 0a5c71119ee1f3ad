-- `scores::take_score` meets its contract: a node's row is stored with its score, and no other. Assumes nothing.
use Rattle.flash_rows.specs.Row.{rows_of}
use Rattle.mount_checkpoint.proofs.Laws.{score_in_lem, score_out}
use Rattle.mount_checkpoint.proofs.scores.take_score.Goals as goal

pub returns-then-id-nodes : goal.returns-then-id-nodes
returns-then-id-nodes c =
    let a = c.args in
    score_in_lem a.nodes a.id a.score (rows_of a.table.now) c.if-id-nodes.true
    c.read_row-row.result c.scored.result
    (rows_of c.write_row.new.table) c.read_row-row.ensures
    c.scored.ensures c.write_row.ensures

pub returns-else-id-nodes : goal.returns-else-id-nodes
returns-else-id-nodes c = let a = c.args in
    score_out a.nodes a.id a.score (rows_of a.table.now) c.if-id-nodes.false
