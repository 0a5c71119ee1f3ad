-- `replay::redo_entries` meets its contract: the run over a buffer that has all its entries. Assumes nothing.
use Rattle.std.proofs.Common.{refl, ◌∙◌, arith}
use Rattle.node_replay.specs.Outline.{draft_in}
use Rattle.flash_read.specs.Replay.{redo_buffer, from_buffer, reach_buffer}
use Rattle.flash_read.proofs.replay.redo_entries.Goals as goal

pub redo_run-requires : goal.redo_run-requires
redo_run-requires c =
    (omega (arith, reach_buffer c.args.n, c.requires.1), c.requires.2)

pub returns : goal.returns
unfolding redo_buffer
returns c =
    let a = c.args in
    let x = c.redo_run.ensures in
    record {
      is =
          x.is ∙
          from_buffer a.id a.version a.buffer.now a.n 0 0 (draft_in a.outline a.keys.now a.pointers.now) refl
          (omega (arith, c.requires.1));
      held = x.held;
    }
