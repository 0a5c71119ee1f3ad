-- `run` meets its contract: whatever the buffers hold, a batch's charges add up to less than 2^44. Assumes nothing.
use Rattle.std.proofs.Common.{rules, arith, ap, ℕ, ◌<◌, slice_index_or}
use Rattle.laws.specs.BigEndian.{bytes-get_or}
use Rattle.laws.specs.Update.{sum}
use Rattle.model.specs.Call.{batch}
use Rattle.demands.specs.TheBook.P2.{charges_fit}
use Rattle.wall.proofs.run.Goals as goal

pub total-charge-requires : goal.total-charge-requires
total-charge-requires g c =
    let a = c.args in
    let left = c.wall_book_batch-refused.ensures in
    let pool_bytes : (i : ℕ) → slice_index_or a.pool.now i 0 < 256 = search rules in
    let batch_bytes : (i : ℕ) → slice_index_or a.commands.now i 0 < 256 = search rules in
    let fits =
    charges_fit a.pool.now (bytes-get_or a.pool.now pool_bytes)
    (batch (record { table = a.table.now; batch = a.commands.now; buffer = a.answers.now }))
    (bytes-get_or a.commands.now batch_bytes) in
    (left.sixteen, omega (arith, ap sum left.paid, fits))
