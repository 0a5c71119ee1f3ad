-- `collect::add_number` meets its contract: the number's bytes are laid behind the row. Assumes nothing.
use Rattle.std.proofs.Common.{arith}
use Rattle.mount_sequences.specs.Row.{row-write-front}
use Rattle.mount_pages.proofs.collect.add_number.Goals as goal

pub returns : goal.returns
returns c = rw c.write32.ensures (row-write-front c.args.count c.args.table.now c.args.number c.requires (omega arith))
