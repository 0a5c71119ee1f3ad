-- The table's first bytes are the buffer. Assumes nothing.
use Rattle.std.proofs.Common.{sym, arith, length-take-le}
use mathlib.Core.Path.{refl}
use Rattle.flash_rows.specs.Worktable.{buffer_of}
use Rattle.flash_rows.specs.WorktableLaws.{length_buffer}
use Rattle.flash_rows.proofs.table.buffer_part.Goals as goal

pub slice_bounds-result-end : goal.slice_bounds-result-end
slice_bounds-result-end c = sym (length-take-le 405 c.args.table.now (omega arith))

pub returns : goal.returns
unfolding buffer_of
returns c = (refl, length_buffer c.args.table.now c.requires)
