-- `replay::redo_page` meets its contract: the run over the fields of a page. Assumes nothing.
use Rattle.std.proofs.Common.{◌∙◌, arith}
use Rattle.node_replay.specs.Outline.{draft_in}
use Rattle.flash_read.specs.Replay.{from_page, reach_page}
use Rattle.flash_read.proofs.replay.redo_page.Goals as goal

pub redo_run-requires : goal.redo_run-requires
redo_run-requires c =
    (omega (arith, reach_page 27, c.requires.0), c.requires.1)

pub returns : goal.returns
returns c =
    let a = c.args in
    let x = c.redo_run.ensures in
    record {
      is = x.is ∙ from_page a.id a.version 27 a.page.now 7 (draft_in a.outline a.keys.now a.pointers.now);
      held = x.held;
    }
